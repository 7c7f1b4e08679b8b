-- One turn of the sweep: a faultless instant is faultless up to the next change, and what the sweep answers where it
-- stops. Assumes nothing.
use mathlib.Core.Path.{◌≡◌, sym, ap, subst}
use mathlib.Core.Bool.{true, false, false≢true}
use Prim.Native.Nat.{ℕ, ◌+◌, ◌≤◌, ◌<◌}
use native.Mathlib.Decide.{dec_le}
use native.Mathlib.Omega.{arith}
use Rattle.std.specs.Prelude.{Ok}
use Rattle.answers.specs.declared.Outcome.{Outcome}
use Rattle.answers.specs.Answers.{Answer}
use Rattle.answers.specs.Numbers.{refuses, passed}
use Rattle.tables.specs.Tables.{Now}
use Rattle.history.specs.Faults.{History, Holds, Faultless, Verdict, accepted, refused}
use Rattle.history.specs.Ruled.{Ruled}
use Rattle.history.specs.Places.{Names, none, first}
use Rattle.history.specs.Until.{Until}
use Rattle.history.specs.Computed.{faults_say}
use Rattle.history.proofs.LineLaws.{fault_back, start_faultless}
use Rattle.history.proofs.SayLaws.{faults_named}
use Rattle.history.proofs.UntilLaws.{until_reaches, until_calm}
use Rattle.verdict.specs.Swept.{Swept}

-- before the start there is no fault
pub sweep_starts : {H : History} → Ruled H → H.start ≤ Now → Swept H H.start
sweep_starts {H} r h = record { instant = h; clean = start_faultless H r h }

-- by the answer at t
module _ (H : History) {t : ℕ} {a : Answer} (e : a ≡ faults_say H t) (r : Ruled H) (w : Swept H t) where
  named : Names (Holds H t) t a
  named = subst (Names (Holds H t) t) (sym e) (faults_named H t r)

  -- one that names a fault is the verdict
  pub sweep_found : refuses a ≡ true → Verdict H a
  sweep_found = at named
    where
      at : {a : Answer} → Names (Holds H t) t a → refuses a ≡ true → Verdict H a
      at (none n) f = absurd (false≢true f)
      at (first x) f = refused (record { instant = w.instant; fault = x; earliest = w.clean })

  -- one that does not shows that there is no fault at t, and so none up to the next change
  module _ {done : Outcome} (f : a ≡ Ok done) {u : ℕ} (until : Until H t u) where
    clean : {a : Answer} → Names (Holds H t) t a → refuses a ≡ false → Faultless H t
    clean (none n) f = n
    clean (first {f = g} x) f = absurd (false≢true (sym f))

    calm : (s : ℕ) → s ≤ u → Faultless H s
    calm s h = go (dec_le t s)
      where
        go : Dec (t ≤ s) → Faultless H s
        go (yes l) g x =
            clean named (ap (λ a. refuses a) f) g
            (fault_back H t s (omega (arith, until.instant)) l (λ c a b. until_calm H t until c a (omega arith)) g x)
        go (no l) g x = w.clean s (omega arith) g x

    -- which is later
    pub sweep_later : t < u + 1
    sweep_later = omega (arith, until_reaches H t until w.instant)

    pub sweep_on : (u ≡ Now → ⊥) → Swept H (u + 1)
    sweep_on ne = record { instant = omega (arith, until.instant); clean = λ s h. calm s (omega arith) }

    pub sweep_done : u ≡ Now → Verdict H passed
    sweep_done q = accepted (λ s h. calm s (omega arith))
