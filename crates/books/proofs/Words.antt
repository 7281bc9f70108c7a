-- A set of points, from its two halves.
use Rattle.std.proofs.Common.{◌≡◌, ℕ, zero, suc, ◌+◌, ◌*◌, ◌/◌, ◌%◌, ◌<◌, Bool, true, false, cond, not, ◌&&◌, ◌||◌, eqb, ltb, ◌≢◌, Decides, MatchBool, sym, refl, ap, ◌∙◌, inl, inr, arith}
use Rattle.std.proofs.lemmas.Bool.{and_from, and_parts, both_ways, cases_Bool, cases_eq, eq-eqb, eqb-false, ne_eqb, not_from_false, not-true}
use Rattle.std.proofs.lemmas.Bool.Decides.{nat_tests}
use Rattle.books.specs.declared.members.Members.{Members}
use Rattle.books.specs.declared.points.PointSet.{PointSet}
use Rattle.books.specs.Points.{has, member}
use Rattle.books.specs.Shut.{size}
use Rattle.books.proofs.Sets.{size_same}

abbrev pub halves : Members → Members → PointSet
halves e o = record { even = e; odd = o }

-- an operation at both halves is the operation at the set
pub at_both : (g : Bool → Bool → Bool) (s t : PointSet) (e o : Members)
    → ((k : ℕ) → member e k ≡ g (member s.even k) (member t.even k)) → ((k : ℕ) → member o k ≡ g (member s.odd k) (member t.odd k))
    → (q : ℕ) → has (halves e o) q ≡ g (has s q) (has t q)
unfolding has
at_both g s t e o even odd q = go (eqb (q % 2) 0) (even (q / 2)) (odd (q / 2))
  where
    go : {a b x y m n : Bool} (h : Bool) → m ≡ g a x → n ≡ g b y → cond h m n ≡ g (cond h a b) (cond h x y)
    go true i j = i
    go false i j = j

-- the half in which the point q is looked for
pub has_even : (s : PointSet) (q : ℕ) → q % 2 ≡ 0 → has s q ≡ member s.even (q / 2)
unfolding has
has_even s q e = rw (eq-eqb (q % 2) 0 e) refl

pub has_odd : (s : PointSet) (q : ℕ) → (q % 2 ≡ 0 → ⊥) → has s q ≡ member s.odd (q / 2)
unfolding has
has_odd s q ne = rw (ne_eqb (q % 2) 0 ne) refl

-- the halves hold the even and the odd points
pub even_point : (s : PointSet) (t : ℕ) → member s.even t ≡ has s (2 * t)
even_point s t = ap (member s.even) (omega arith) ∙ sym (has_even s (2 * t) (omega arith))

pub odd_point : (s : PointSet) (t : ℕ) → member s.odd t ≡ has s (2 * t + 1)
odd_point s t = ap (member s.odd) (omega arith) ∙ sym (has_odd s (2 * t + 1) (omega arith))

-- the size of a set is that of its even part and its odd part
size_parts : (n : ℕ) (S : ℕ → Bool) → size (n + n) S ≡ size n (λ i. S (i + i)) + size n (λ i. S (i + i + 1))
unfolding size
size_parts zero S = refl
size_parts (suc n) S =
    let e : suc n + suc n ≡ suc (suc (n + n)) = omega arith in
    let o : suc (n + n) ≡ n + n + 1 = omega arith in
    let h = size_parts n S in
    let k : cond {A = ℕ} (S (suc (n + n))) 1 0 ≡ cond (S (n + n + 1)) 1 0 = ap (λ i. cond (S i) 1 0) o in
    ap (λ m. size m S) e ∙ omega arith

pub size_halves : (s : PointSet) → size 64 (member s.even) + size 64 (member s.odd) ≡ size 128 (has s)
size_halves s =
    let parts = size_parts 64 (has s) in
    let e = size_same 64 (λ i. has s (i + i)) (member s.even) (λ i _. has_even s (i + i) (omega arith) ∙ ap (member s.even) (omega arith)) in
    let o = size_same 64 (λ i. has s (i + i + 1)) (member s.odd) (λ i _. has_odd s (i + i + 1) (omega arith) ∙ ap (member s.odd) (omega arith)) in
    omega arith

-- one point more, by the half that it is put into
pub adds_even : (s : PointSet) (e : Members) (p : ℕ) → p % 2 ≡ 0
    → ((k : ℕ) → member e k ≡ ((ltb (p / 2) 64 && eqb k (p / 2)) || member s.even k))
    → (q : ℕ) → has (halves e s.odd) q ≡ ((ltb p 128 && eqb q p) || has s q)
adds_even s e p even after q = elim (cases_eq (q % 2) 0) [
  | inl h ↦ (let x = has_even s q h in let a = after (q / 2) in has_even (halves e s.odd) q h ∙ grind (arith, nat_tests))
  | inr h ↦ (let x = has_odd s q h in has_odd (halves e s.odd) q h ∙ grind (arith, nat_tests))
]

pub adds_odd : (s : PointSet) (o : Members) (p : ℕ) → (p % 2 ≡ 0 → ⊥)
    → ((k : ℕ) → member o k ≡ ((ltb (p / 2) 64 && eqb k (p / 2)) || member s.odd k))
    → (q : ℕ) → has (halves s.even o) q ≡ ((ltb p 128 && eqb q p) || has s q)
adds_odd s o p odd after q = elim (cases_eq (q % 2) 0) [
  | inl h ↦ (let x = has_even s q h in has_even (halves s.even o) q h ∙ grind (arith, nat_tests))
  | inr h ↦ (let x = has_odd s q h in let a = after (q / 2) in has_odd (halves s.even o) q h ∙ grind (arith, nat_tests))
]

-- whether a set is empty, or has a number
abbrev EmptyOrNot : Members → Bool → Type 0
EmptyOrNot s r = MatchBool r ((k : ℕ) → member s k ≡ false) ((k : ℕ) × (k < 64) × (member s k ≡ true))

-- a set is empty without another exactly when it lies inside it
pub all_in : (s t rest : Members) → ((k : ℕ) → member rest k ≡ (member s k && not (member t k))) → (r : Bool) → EmptyOrNot rest r
    → Decides r ((k : ℕ) → member s k ≡ true → member t k ≡ true)
all_in s t rest left true none = (
  λ _ k h. elim (cases_Bool (member t k)) [
    | inl i ↦ i
    | inr o ↦ absurd (both_ways (member rest k) (none k) (left k ∙ and_from (member s k) (not (member t k)) h (not_from_false (member t k) o)))
  ],
  λ _. refl,
)
all_in s t rest left false (k, l, h) = (
  λ e. absurd (both_ways false refl e),
  λ inside. let both = and_parts (member s k) (not (member t k)) (sym (left k) ∙ h) in
      absurd (both_ways (member t k) (not-true (member t k) both.1) (inside k both.0)),
)

-- the even half without t is empty exactly when there is no other even point
pub any_besides : (s : PointSet) (t : ℕ) (others : Members) → ((k : ℕ) → member others k ≡ (member s.even k && not (eqb k t))) → (r : Bool) → EmptyOrNot others r
    → Decides (not r) ((u : ℕ) × (u < 64) × (u ≢ t) × (has s (2 * u) ≡ true))
any_besides s t others left true none = (
  λ e. absurd (both_ways false refl e),
  λ (u, l, ne, h). absurd (both_ways (member others u) (none u)
      (left u ∙ and_from (member s.even u) (not (eqb u t)) (even_point s u ∙ h) (not_from_false (eqb u t) (ne_eqb u t ne)))),
)
any_besides s t others left false (k, l, h) = (
  λ _. let both = and_parts (member s.even k) (not (eqb k t)) (sym (left k) ∙ h) in
      (k, l, eqb-false k t (not-true (eqb k t) both.1), sym (even_point s k) ∙ both.0),
  λ _. refl,
)
