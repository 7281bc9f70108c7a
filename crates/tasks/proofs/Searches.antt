-- What a search over a range of numbers finds, said of the numbers.
use Rattle.std.proofs.Common.{◌≡◌, ℕ, ◌+◌, ◌-◌, ◌<◌, ◌≤◌, Some, None, Option, MatchOption, ap, ◌∙◌, subst, arith}
use Rattle.std.specs.Option.{IfSome, IsSomeAnd, option_map}
use Rattle.std.specs.Bool.{IsTrue}
use Rattle.std.specs.Iterator.Runs.{Run, SomeRun, AllItemsGive, IsFirstToGive, ItemsCountUp}
use Rattle.std.proofs.iter.runs.Sources.{range_runs}
use Rattle.std.proofs.iter.Yields.{nat_range_steps}
use Rattle.std.specs.declared.ops.Range.{Range}
use denote.Param.Members.{Mut, Called}

-- what holds of an item holds of the number that it is
of_item : (o : Option ℕ) (e : ℕ) (Q : ℕ → Type 0) → option_map (λ y. y) o ≡ Some e → IfSome o Q → Q e
of_item None e Q q h = absurd (cc)
of_item (Some x) e Q q h = subst Q (cc) h

of_some : (o : Option ℕ) (e : ℕ) (Q : ℕ → Type 0) → option_map (λ y. y) o ≡ Some e → IsSomeAnd o Q → Q e
of_some None e Q q h = absurd h
of_some (Some x) e Q q h = subst Q (cc) h

-- `find_map`, where no call changes the closure
module _ {F C : Type 0} (g : Mut F (ℕ × Unit {0}) (Option C)) (f : F) (s : Range ℕ) (r : Option C) (P : ℕ → Option C → Type 0) where
  abbrev Answer : Option C → Run nat_range_steps → Type 0
  Answer y p = MatchOption y (IsTrue p.whole × AllItemsGive p g f None) (λ z. (i : ℕ) × (i < p.len) × (p.len ≡ i + 1) × IsFirstToGive p g f (Some z) None i)

  abbrev Found : Option C → Type 0
  Found y = MatchOption y ((e : ℕ) → s.start ≤ e → e < s.end → P e None) (λ z. (x : ℕ) × (s.start ≤ x) × (x < s.end) × P x (Some z) × ((e : ℕ) → s.start ≤ e → e < x → P e None))

  abbrev Tells : Type 0
  Tells = (x : ℕ) (y : Option C) (q : F) → Called g f (x, tt) y q → (q ≡ f) × P x y

  in_run : (y : Option C) (p : Run nat_range_steps) → ItemsCountUp p s.start s.end → Answer y p → Tells → Found y
  in_run None p u h says = λ e low high.
      let place : e - s.start < p.len = omega (arith, u.1 h.0) in
      let at : option_map (λ y. y) (p.at (e - s.start)) ≡ Some e = u.3 (e - s.start) place ∙ ap Some (omega arith) in
      of_item _ e (λ x. P x None) at (each (p.at (e - s.start)) (h.1 (λ a z q k. (says a.0 z q k).0) (e - s.start)))
    where
      each : (o : Option ℕ) → IfSome o (λ x. Called g f (x, tt) None f) → IfSome o (λ x. P x None)
      each None k = tt
      each (Some x) k = (says x None f k).1
  in_run (Some z) p u h says =
      let i = h.0 in
      let first = h.3 (λ a z q k. (says a.0 z q k).0) in
      let here : option_map (λ y. y) (p.at i) ≡ Some (s.start + i) = u.3 i h.1 in
      let call = of_some _ (s.start + i) (λ x. Called g f (x, tt) (Some z) f) here first.0 in
      let high : i < s.end - s.start = omega (arith, u.0, h.1) in (
        s.start + i,
        omega arith,
        omega arith,
        (says (s.start + i) (Some z) f call).1,
        λ e low below.
            let k = e - s.start in
            let before : k < i = omega arith in
            let there : option_map (λ y. y) (p.at k) ≡ Some e = u.3 k (omega (arith, h.1)) ∙ ap Some (omega arith) in
            (says e None f (of_some _ e (λ x. Called g f (x, tt) None f) there (first.1 k before))).1,
      )

  pub first_in_range : SomeRun nat_range_steps s (Answer r) → Tells → Found r
  first_in_range h says = in_run r h.0 (subst (λ (t : Range ℕ). ItemsCountUp h.0 t.start t.end) h.1 (range_runs h.0 h.0.seen)) h.2 says
