-- Reading by a plan, over every plan: what is laid out by it is read (`plan_of`), what is read was laid out by it
-- (`plan_is`), reading goes as far as lines that it lays out stand (`plan_past`), and where it is refused, such lines
-- stand (`plan_before`). Assumes nothing.
use mathlib.Core.List.{List, [], ◌∷◌, ◌++◌, append_assoc}
use mathlib.Core.Path.{◌≡◌, refl, sym, ap, subst, ◌∙◌}
use Prim.Native.Nat.{ℕ, zero, suc, ◌+◌, ◌-◌, ◌≤◌}
use native.Mathlib.Omega.{arith}
use lib.ListN.{length, take, drop, length-append}
use lib.Seq.{take-nil, take-append-le, take-append-add}
use Rattle.ground.specs.Lists.{Stands, joined}
use Rattle.ground.proofs.TestLaws.{by_lt}
use Rattle.ground.proofs.ListLaws.{stands_nil, stands_append, rest_at}
use Rattle.lines.specs.declared.form.Form.{Form}
use Rattle.lines.specs.Lines.{width_of, lines_of, lines_text}
use Rattle.lines.specs.Reads.{got, wrong, and_then, lines_at, place_of}
use Rattle.lines.specs.Plans.{Plan, stop, lines, plan_then, plan_at, LaysOut}
use Rattle.lines.proofs.GotLaws.{by_got, got_not_wrong, got_place, wrong_place, then_got, then_wrong, got_then}
use Rattle.lines.proofs.LineLaws.{LinesIs, lines_of_lem, lines_is}
use Rattle.lines.proofs.PlaceLaws.{FormOk, FirstStand, lines_mono, lines_past, none_before, lines_before}

-- ---- lines, joined

pub joined_append : (xs ys : List (List ℕ)) → joined (xs ++ ys) ≡ joined xs ++ joined ys
unfolding joined
joined_append [] ys = refl
joined_append (x ∷ xs) ys =
    ap (λ (r : List ℕ). x ++ r) (joined_append xs ys) ∙ sym (append_assoc x (joined xs) (joined ys))

pub joined_take : (j : ℕ) (ls : List (List ℕ)) → length (joined (take j ls)) ≤ length (joined ls)
unfolding joined
joined_take j [] = rw (take-nil j) (omega arith)
joined_take zero (x ∷ ls) = omega arith
joined_take (suc j) (x ∷ ls) =
    omega (arith, joined_take j ls, length-append x (joined (take j ls)), length-append x (joined ls))

lines_count : (k : List ℕ) (f : Form) (m : ℕ) (vs : List ℕ) → length (lines_of k f m vs) ≡ m
unfolding lines_of
lines_count k f zero vs = refl
lines_count k f (suc m) vs = ap suc (lines_count k f m (drop (width_of f) vs))

-- the first j of lines that a run of m begins: they are of that run, or all of it and j - m more
module _ (k : List ℕ) (f : Form) (m : ℕ) (vs : List ℕ) (rest : List (List ℕ)) (j : ℕ) where
  within_run : j ≤ m → joined (take j (lines_of k f m vs ++ rest)) ≡ joined (take j (lines_of k f m vs))
  within_run h = ap joined (take-append-le j (lines_of k f m vs) rest (omega (arith, lines_count k f m vs)))

  past_run : joined (take (m + j) (lines_of k f m vs ++ rest)) ≡ lines_text k f m vs ++ joined (take j rest)
  past_run =
      ap (λ (n : ℕ). joined (take (n + j) (lines_of k f m vs ++ rest))) (sym (lines_count k f m vs))
      ∙ ap joined (take-append-add (lines_of k f m vs) rest j)
      ∙ joined_append (lines_of k f m vs) (take j rest)

  -- where more than that run stands, the run stands, and then the rest
  run_stands : (s : List ℕ) (i n : ℕ) → Stands s i (joined (take (m + j) (lines_of k f m vs ++ rest))) n
      → (drop i s ≡ lines_text k f m vs ++ (joined (take j rest) ++ drop n s)) × Stands s
      (i + length (lines_text k f m vs)) (joined (take j rest)) n
  run_stands s i n st =
      let x = lines_text k f m vs in
      let y = joined (take j rest) in
      let here : drop i s ≡ x ++ (y ++ drop n s) = st.here ∙ ap (λ (r : List ℕ). r ++ drop n s) past_run
      ∙ append_assoc x y (drop n s) in (
        here,
        record {
          here = rest_at s i x (y ++ drop n s) here;
          after = omega
              (arith, st.after, ap length past_run, length-append x y);
        },
      )

-- ---- a plan that follows another

pub plan_then_at : {A B : Type 0} (p : Plan A) (go : A → Plan B) (s : List ℕ) (i : ℕ)
    → plan_at (plan_then p go) s i ≡ and_then (plan_at p s i) (λ a n. plan_at (go a) s n)
unfolding plan_at plan_then and_then
plan_then_at (stop a) go s i = refl
plan_then_at (lines k f m next) go s i =
    by_got (lines_at k f s m i)
    (λ vs n e. rw e (plan_then_at (next vs) go s n))
    (λ p e. rw e)

module _ {A : Type 0} where
  -- ---- the round trips

  pub plan_of : (p : Plan A) (a : A) (ls : List (List ℕ)) (s : List ℕ) (i : ℕ) (ys : List ℕ) → LaysOut p a ls
      → drop i s ≡ joined ls ++ ys
      → plan_at p s i ≡ got a (i + length (joined ls))
  unfolding plan_at joined
  plan_of (stop b) a ls s i ys (q, none) e = rw (none, q) (ap (got a) (omega arith))
  plan_of (lines k f m next) a ls s i ys (vs, rest, ok, long, laid, all) e =
      let x = lines_text k f m vs in
      let j : joined ls ≡ x ++ joined rest = ap joined all ∙ joined_append (lines_of k f m vs) rest in
      let here : drop i s ≡ x ++ (joined rest ++ ys) = e ∙ ap (λ (r : List ℕ). r ++ ys) j
      ∙ append_assoc x (joined rest) ys in
      let ih = plan_of (next vs) a rest s (i + length x) ys laid (rest_at s i x (joined rest ++ ys) here) in
      then_got _ _ (lines_of_lem k f s m i vs (joined rest ++ ys) ok long here) ∙ ih
      ∙ ap (got a) (omega (arith, ap length j, length-append x (joined rest)))

  pub plan_is : (p : Plan A) (s : List ℕ) (i : ℕ) (a : A) (n : ℕ) → plan_at p s i ≡ got a n
      → (ls : List (List ℕ)) × LaysOut p a ls × Stands s i (joined ls) n
  unfolding plan_at joined
  plan_is (stop b) s i a n e =
      let q : b ≡ a = cc in
      let h : i ≡ n = cc in
      ([], (q, refl), subst (Stands s i []) h (stands_nil s i))
  plan_is (lines k f m next) s i a n e =
      let (vs, j, r, e₁) = got_then _ (lines_at k f s m i) a n e in
      let is = lines_is k f s m i vs j r in
      let (ls, laid, st) = plan_is (next vs) s j a n e₁ in (
        lines_of k f m vs ++ ls,
        (vs, ls, is.ok, is.long, laid, refl),
        rw (joined_append (lines_of k f m vs) ls) (stands_append is.stands st),
      )

  -- ---- the place

  plan_mono : (p : Plan A) (s : List ℕ) (i : ℕ) → i ≤ place_of (plan_at p s i)
  unfolding plan_at place_of and_then
  plan_mono (stop a) s i = omega arith
  plan_mono (lines k f m next) s i =
      by_got (lines_at k f s m i)
      (λ vs n e. rw e (omega (arith, lines_mono k f s m i, got_place _ e, plan_mono (next vs) s n)))
      (λ p e. rw e (omega (arith, lines_mono k f s m i, wrong_place _ e)))

  run_mono : (k : List ℕ) (f : Form) (m : ℕ) (next : List ℕ → Plan A) (s : List ℕ) (i : ℕ)
      → place_of (lines_at k f s m i) ≤ place_of (plan_at (lines k f m next) s i)
  unfolding plan_at place_of and_then
  run_mono k f m next s i =
      by_got (lines_at k f s m i) (λ vs n e. rw e (plan_mono (next vs) s n)) (λ p e. rw e (omega arith))

  pub plan_past : (p : Plan A) (a : A) (ls : List (List ℕ)) (s : List ℕ) (i j n : ℕ) → LaysOut p a ls
      → Stands s i (joined (take j ls)) n
      → n ≤ place_of (plan_at p s i)
  unfolding plan_at joined
  plan_past (stop b) a ls s i j n (q, none) st =
      let t = rw (none, take-nil j) at st in omega (arith, t.after, plan_mono (stop b) s i)
  plan_past (lines k f m next) a ls s i j n (vs, rest, ok, long, laid, all) st₀ =
      let st : Stands s i (joined (take j (lines_of k f m vs ++ rest))) n = rw all at st₀ in
      by_lt m j
      (λ h.
      let c : j ≡ m + (j - m) = omega arith in
      let (here, after) = run_stands k f m vs rest (j - m) s i n (rw c at st) in
      let e = then_got (λ us l. plan_at (next us) s l) _
      (lines_of_lem k f s m i vs (joined (take (j - m) rest) ++ drop n s) ok long here) in
      omega (
        arith,
        plan_past (next vs) a rest s (i + length (lines_text k f m vs)) (j - m) n laid after,
        ap place_of
            e,
      ))
      (λ h. omega (
        arith,
        lines_past k f s m i vs j n ok (rw (within_run k f m vs rest j h) at st),
        run_mono k f m
            next s i,
      ))

  -- every form of the plan has numbers
  abbrev pub FormsOk : Plan A → Type 0
  FormsOk (stop a) = Unit {0}
  FormsOk (lines k f m next) = FormOk f × ((vs : List ℕ) → FormsOk (next vs))

  plan_some : (p : Plan A) → FormsOk p → (a : A) × (ls : List (List ℕ)) × LaysOut p a ls
  plan_some (stop a) o = (a, [], (refl, refl))
  plan_some (lines k f m next) (o, os) =
      let b = none_before k f [] o m 0 in
      let (a, ls, laid) = plan_some (next b.numbers) (os b.numbers) in
      (a, lines_of k f m b.numbers ++ ls, (b.numbers, ls, b.ok, b.long, laid, refl))

  -- lines that the plan lays out, of which the first `count` stand from place i up to place q
  pub record Reached (p : Plan A) (s : List ℕ) (i q : ℕ) : Type 0 where
    pub told : A
    pub all : List (List ℕ)
    pub count : ℕ
    pub laid : LaysOut p told all
    pub stands : Stands s i (joined (take count all)) q

  module _ (k : List ℕ) (f : Form) (m : ℕ) (next : List ℕ → Plan A) (s : List ℕ) (i q : ℕ) where
    reached_run : FirstStand k f s m i q → ((vs : List ℕ) → FormsOk (next vs)) → Reached (lines k f m next) s i q
    reached_run b os =
        let (a, ls, laid) = plan_some (next b.numbers) (os b.numbers) in
        record {
          told = a;
          all = lines_of k f m b.numbers ++ ls;
          count = b.count;
          laid = (b.numbers, ls, b.ok, b.long, laid, refl);
          stands = rw (within_run k f m b.numbers ls b.count b.fewer) b.stands;
        }

    reached_past : (vs : List ℕ) (n : ℕ) → LinesIs k f s m i vs n → Reached (next vs) s n q
        → Reached (lines k f m next) s i q
    reached_past vs n is r =
        record {
          told = r.told;
          all = lines_of k f m vs ++ r.all;
          count = m + r.count;
          laid = (vs, r.all, is.ok, is.long, r.laid, refl);
          stands = rw (past_run k f m vs r.all r.count) (stands_append is.stands r.stands);
        }

  pub plan_before : (p : Plan A) (s : List ℕ) (i q : ℕ) → FormsOk p → plan_at p s i ≡ wrong q → Reached p s i q
  unfolding plan_at
  plan_before (stop a) s i q o e = got_not_wrong _ refl e
  plan_before (lines k f m next) s i q (o, os) e =
      by_got (lines_at k f s m i)
      (λ vs n r. reached_past k f m next s i q vs n (lines_is k f s m i vs n r)
      (plan_before (next vs) s n q (os vs) (sym (then_got _ _ r) ∙ e)))
      (λ p r.
      let h : p ≡ q = sym (wrong_place _ (then_wrong (λ vs n. plan_at (next vs) s n) _ r)) ∙ wrong_place _ e in
      reached_run k f m next s i q (lines_before k f s o m i q (r ∙ ap wrong h)) os)
