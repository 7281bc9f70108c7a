-- The fields after the letter, as a loop over them with their numbers from 0 meets them.
use Rattle.std.proofs.Common.{◌≡◌, ℕ, ◌+◌, ◌<◌, ◌≤◌, Bool, false, eqb, List, [], length, drop, Some, Option, ap, ◌∙◌, arith, Bor}
use Rattle.std.specs.Fn.{CalledAt}
use Rattle.std.specs.Iterator.{Yields}
use Rattle.std.specs.Iterator.Adapters.{skip_source, skip_count, skip_steps, enumerate_source, enumerate_count, enumerate_steps}
use Rattle.std.specs.List.{enumerate_from}
use Rattle.std.specs.Slice.Iter.{split_rest, split_done, split_callee, split_steps}
use Rattle.std.specs.declared.iter.Enumerate.{Enumerate}
use Rattle.std.specs.declared.iter.Skip.{Skip}
use Rattle.std.specs.declared.slice.Split.{Split}
use denote.Param.Members.{Mut}
use Rattle.std.proofs.lemmas.List.{get_or-drop, get_or_default, length-drop}
use Rattle.std.proofs.lemmas.List.FromFn.{length-enumerate_from, get_or-enumerate_from}
use Rattle.std.proofs.lemmas.List.Splits.{length-slice_split}
use Rattle.std.proofs.lemmas.List.Sums.{count_by-le-length}
use Rattle.std.proofs.lemmas.Iterator.{YieldsList}
use Rattle.std.proofs.lemmas.Iterator.Adapters.{YieldsList-from_skip}
use Rattle.std.proofs.lemmas.Iterator.Consumers.{YieldsList-at, YieldsList-from_enumerate, YieldsList-turn}
use Rattle.std.proofs.lemmas.Iterator.Splits.{YieldsList-from_slice_split}
use Rattle.lines.specs.Lines.{fields, field}

-- the loop goes over these
pub road : {F : Type 0} (g : Mut F (Bor ℕ × Unit {0}) Bool) {f : F} (line : List ℕ) {parts : Split ℕ F} {after : Skip (Split ℕ F)} {numbered s : Enumerate (Skip (Split ℕ F))}
    → split_rest parts ≡ line → split_done parts ≡ false → split_callee parts ≡ f → ((x : ℕ) (b : Bool) (q : F) → CalledAt g f x b q → (q ≡ f) × (b ≡ eqb x 44))
    → skip_source after ≡ parts → skip_count after ≡ 1 → enumerate_source numbered ≡ after → enumerate_count numbered ≡ 0 → s ≡ numbered
    → YieldsList (enumerate_steps (skip_steps (split_steps g))) (λ p. (p.0, p.1.now)) s (enumerate_from 0 (drop 1 (fields line)))
road g line rest done callee comma source one from zero same =
    YieldsList-at same (YieldsList-from_enumerate (YieldsList-at from (YieldsList-from_skip 1 (YieldsList-at source (YieldsList-from_slice_split g (λ b. eqb b 44) line rest done callee comma)) one)) zero)

-- there is one field more than there are commas
pub fields_few : (line : List ℕ) → length (fields line) ≤ length line + 1
fields_few line =
    omega (arith, length-slice_split (λ b. eqb b 44) line, count_by-le-length (λ b. eqb b 44) line)

-- this turn's number and field
pub turn : {S : Type 0} {steps : S → Option (ℕ × Bor (List ℕ)) → S → Type 0} {s : S} (line : List ℕ)
    → YieldsList steps (λ p. (p.0, p.1.now)) s (enumerate_from 0 (drop 1 (fields line)))
    → (xs : List (ℕ × Bor (List ℕ))) (t : S) → Yields steps s xs t → (r : Option (ℕ × Bor (List ℕ))) (u : S) (i : ℕ) (p : Bor (List ℕ)) → r ≡ Some (i, p) → steps t r u
    → (i ≡ length xs) × (i + 1 < length (fields line)) × (p.now ≡ field line (i + 1))
turn line e xs t y r u i p is step =
    let here = YieldsList-turn e xs t y r u (i, p) is step in
    let fs = drop 1 (fields line) in
    let within : length xs < length fs = omega (arith, here.0, length-enumerate_from 0 fs) in
    let item = here.1 ∙ get_or-enumerate_from 0 fs (length xs) (i, p.now) within in
    let at : i ≡ length xs = omega (arith, ap (λ (x : ℕ × List ℕ). x.0) item) in
    (at, omega (arith, at, within, length-drop 1 (fields line)), ap (λ (x : ℕ × List ℕ). x.1) item ∙ get_or_default fs (length xs) p.now [] within ∙ get_or-drop 1 (fields line) (length xs) [] ∙ ap (field line) (omega (arith, at)))
