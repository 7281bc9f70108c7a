use Rattle.std.proofs.Common.{◌≡◌, ℕ, ◌<◌, ◌≤◌, List, [], ◌∷◌, Some, None, Option, MatchOption, ◌∙◌, ap, sym, subst, inl, inr, arith, rules}
use borrow.Author.Tests.{tests}
use Rattle.std.proofs.lemmas.Bool.{cases_lt}
use Rattle.rules.specs.Picture.{Picture, queue}
use Rattle.rules.specs.Rules.{In, Takes}
use Rattle.tasks.specs.View.{view}
use Rattle.tasks.specs.declared.ids.Entry.{Entry}
use Rattle.tasks.specs.declared.ids.TaskId.{TaskId}
use Rattle.tasks.specs.declared.open_set.OpenSet.{OpenSet}
use Rattle.tasks.specs.declared.search.Caller.{Caller}
use Rattle.rules.proofs.Basics.Masks.{in_below}
use Rattle.tasks.proofs.Searches.{first_in_range}
use Rattle.tasks.proofs.tables.Tables.first_caller.Goals as goal

module _ (p : Picture) (s : TaskId) (o : OpenSet) where
  -- what is told of one entry
  abbrev Told : ℕ → Option Caller → Type 0
  Told e r = MatchOption r (In e o.mask → queue p s.number e ≡ []) (λ k. (k.entry ≡ record { server = s; number = e }) × In e o.mask × (rest : List ℕ) × (queue p s.number e ≡ k.task.number ∷ rest))

  -- below the first entry that was asked, none is open
  of_all : (low : ℕ) (r : Option Caller) → ((e : ℕ) → e < low → In e o.mask → ⊥)
      → MatchOption r ((e : ℕ) → low ≤ e → e < o.entries → Told e None) (λ k. (x : ℕ) × (low ≤ x) × (x < o.entries) × Told x (Some k) × ((e : ℕ) → low ≤ e → e < x → Told e None))
      → MatchOption r ((e : ℕ) → In e o.mask → queue p s.number e ≡ []) (λ k. (k.entry.server ≡ s) × Takes p s.number o.mask k.task.number k.entry.number)
  of_all low None under h = λ e i. elim (cases_lt e low) [ inl l ↦ absurd (under e l i) | inr l ↦ h e l (in_below o.entries o.mask e o.own i) i ]
  of_all low (Some k) under h =
      let here = h.3 in
      let number : k.entry.number ≡ h.0 = ap (λ (e : Entry). e.number) here.0 in (
        ap (λ (e : Entry). e.server) here.0,
        record {
          opened = subst (λ e. In e o.mask) (sym number) here.1;
          rest = here.2;
          head = ap (queue p s.number) number ∙ here.3;
          lower = λ e l i. elim (cases_lt e low) [ inl b ↦ absurd (under e b i) | inr b ↦ h.4 e b (omega (arith, number)) i ];
        },
      )

pub returns : goal.returns
returns c =
    let p = view c.args.self.now in
    let s = c.args.server in
    let o = c.args.set in
    of_all p s o c.lowest.result c.find_map.result c.lowest.ensures.1 (first_in_range _ _ _ c.find_map.result (Told p s o) c.find_map.ensures.runs (λ x y q k. search (rules, tests)))
