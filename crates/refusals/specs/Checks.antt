-- Checks that are made one after another, and the first of them that refuses.
use Rattle.std.specs.Prelude.{◌≡◌, ℕ, suc, ◌≤◌, ◌⊎◌}
use Rattle.refusals.specs.declared.Refusal.{Refusal}
use Rattle.refusals.specs.Table.{number_of}

-- a table of checks: check r F cs refuses with r where F holds, and goes on with cs where it does not
pub data Checks : Type 1 where
  done : Checks
  check : Refusal → Type 0 → Checks → Checks

-- r is the refusal of the first check that refuses
abbrev pub FirstRefusal : Checks → Refusal → Type 0
FirstRefusal done r = ⊥
FirstRefusal (check u F cs) r = (F × (r ≡ u)) ⊎ ((F → ⊥) × FirstRefusal cs r)

-- no check refuses
abbrev pub AllPass : Checks → Type 0
AllPass done = Unit {0}
AllPass (check u F cs) = (F → ⊥) × AllPass cs

-- the checks stand in the order of their numbers, which are n or more
abbrev pub Ascend : ℕ → Checks → Type 0
Ascend n done = Unit {0}
Ascend n (check u F cs) = (n ≤ number_of u) × Ascend (suc (number_of u)) cs
