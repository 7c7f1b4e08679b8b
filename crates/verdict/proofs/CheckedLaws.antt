-- Two answers that check allows coincide, and it allows the computed one. Assumes nothing.
use mathlib.Core.Path.{◌≡◌, refl, sym, ap, ◌∙◌, subst}
use mathlib.Core.Bool.{true, false≢true}
use Rattle.ground.proofs.TestLaws.{by_test}
use Rattle.std.specs.Prelude.{Ok, Err}
use Rattle.answers.specs.declared.Refusal.{Refusal}
use Rattle.answers.specs.Answers.{Answer}
use Rattle.answers.specs.Numbers.{refuses}
use Rattle.tables.specs.Tables.{Tables}
use Rattle.tables.specs.Says.{history_says}
use Rattle.tables.specs.Rules.{Obeys, Gives}
use Rattle.tables.proofs.GivesLaws.{gives_is, gives_says, obeys_tells}
use Rattle.history.specs.Faults.{held, Verdict}
use Rattle.history.specs.Taken.{held_in, Taken}
use Rattle.history.specs.declared.ruled.History.{History}
use Rattle.history.proofs.RuledLaws.{obeys_ruled}
use Rattle.history.proofs.VerdictLaws.{verdict_unique}
use Rattle.history.proofs.ExistsLaws.{verdict_exists}
use Rattle.verdict.specs.Checked.{Checked, ruled_out, judged}
use Rattle.verdict.specs.Says.{check_says}

module _ (L : Tables) where
  -- what the rules refuse, and what they pass over
  pub on_refused : {e : Refusal} → history_says L ≡ Err e → Checked L (Err e)
  on_refused q = ruled_out (subst (Gives L) q (gives_says L)) refl

  pub on_taken : (h : History) {a : Answer} → Taken L (Ok h) → Verdict (held_in h) a → Checked L a
  on_taken h taken v = judged taken.0 (rw taken.1 at v)

  -- tables that a rule refuses do not obey the rules
  not_both : {a : Answer} → Gives L a → refuses a ≡ true → Obeys L → ⊥
  not_both g t o = false≢true (sym ((obeys_tells L).1 o) ∙ ap refuses (sym (gives_is L g)) ∙ t)

  pub checked_verdict : {a : Answer} → Obeys L → Checked L a → Verdict (held L) a
  checked_verdict o (ruled_out g t) = absurd (not_both g t o)
  checked_verdict o (judged p v) = v

  pub checked_unique : {a b : Answer} → Checked L a → Checked L b → a ≡ b
  checked_unique (ruled_out g t) (ruled_out h u) = gives_is L g ∙ sym (gives_is L h)
  checked_unique (ruled_out g t) (judged o v) = absurd (not_both g t o)
  checked_unique (judged o v) (ruled_out g t) = absurd (not_both g t o)
  checked_unique (judged o v) (judged p w) = verdict_unique (held L) v w

  pub checked_exists : Checked L (check_says L)
  unfolding check_says
  checked_exists =
      by_test (refuses (history_says L))
      (λ t. rw t (ruled_out (gives_says L) t))
      (λ f.
      let o = (obeys_tells L).0 f in
      rw f (judged o (verdict_exists (held L) (obeys_ruled L o))))
