-- Sets of points as tests: how large they are, and how judging comes to the largest shut set.
use Rattle.std.proofs.Common.{◌≡◌, ℕ, zero, suc, ◌+◌, ◌<◌, ◌≤◌, Bool, true, false, cond, not, ◌&&◌, ◌||◌, eqb, ltb, ◌⊎◌, sym, refl, ap, ◌∙◌, inl, inr, ⊎_elim, arith}
use Rattle.std.proofs.lemmas.Bool.{both_ways, not-true, not_from_false, ltb-true, lt-ltb, eqb-true, eq-eqb, and_parts, and_from, or_cases, or_left, or_right, cases_Bool, cases_eq, ne_eqb}
use Rattle.books.specs.Passes.{Reached}
use Rattle.books.specs.Shut.{Inside, Grows, outside, Shut, size}

flag_le : (a b : Bool) → (a ≡ true → b ≡ true) → cond a 1 0 ≤ cond b 1 0
flag_le true true h = omega arith
flag_le true false h = absurd (both_ways false refl (h refl))
flag_le false true h = omega arith
flag_le false false h = omega arith

one_le : (a : Bool) → cond a 1 0 ≤ 1
one_le true = omega arith
one_le false = omega arith

pub size_le : (n : ℕ) (S : ℕ → Bool) → size n S ≤ n
unfolding size
size_le zero S = omega arith
size_le (suc n) S = let h = size_le n S in let k = one_le (S n) in omega arith

pub size_inside : (n : ℕ) (S T : ℕ → Bool) → Inside S T → size n S ≤ size n T
unfolding size
size_inside zero S T i = omega arith
size_inside (suc n) S T i = let h = size_inside n S T i in let k = flag_le (S n) (T n) (i n) in omega arith

pub size_more : (n : ℕ) (S T : ℕ → Bool) → Inside S T → (q : ℕ) → q < n → S q ≡ false → T q ≡ true → size n S < size n T
unfolding size
size_more zero S T i q h s t = absurd (omega arith)
size_more (suc n) S T i q h s t = ⊎_elim
    (λ (e : q ≡ n).
    let k = size_inside n S T i in
    let a : cond {A = ℕ} (S n) 1 0 ≡ 0 = rw (← e, s) refl in
    let b : cond {A = ℕ} (T n) 1 0 ≡ 1 = rw (← e, t) refl in
    omega arith)
    (λ (ne : q ≡ n → ⊥).
    let lt : q < n = omega arith in
    let k = size_more n S T i q lt s t in let f = flag_le (S n) (T n) (i n) in omega arith)
    (cases_eq q n)

-- tests that agree below n
pub size_same : (n : ℕ) (S T : ℕ → Bool) → ((q : ℕ) → q < n → S q ≡ T q) → size n S ≡ size n T
unfolding size
size_same zero S T e = refl
size_same (suc n) S T e =
    let h = size_same n S T (λ q l. e q (omega arith)) in
    let k : cond {A = ℕ} (S n) 1 0 ≡ cond (T n) 1 0 = ap (λ b. cond b 1 0) (e n (omega arith)) in
    omega arith

pub size_none : (n : ℕ) (S : ℕ → Bool) → ((q : ℕ) → S q ≡ false) → size n S ≡ 0
unfolding size
size_none zero S e = refl
size_none (suc n) S e =
    let h = size_none n S e in
    let k : cond {A = ℕ} (S n) 1 0 ≡ 0 = ap (λ b. cond b 1 0) (e n) in
    omega arith

-- tests that agree but at p, where X fails
pub size_one_more : (n : ℕ) (X Y : ℕ → Bool) (p : ℕ) → p < n → ((q : ℕ) → (q ≡ p → ⊥) → Y q ≡ X q) → X p ≡ false → size n Y ≡ size n X + cond (Y p) 1 0
unfolding size
size_one_more zero X Y p h e x = absurd (omega arith)
size_one_more (suc n) X Y p h e x = ⊎_elim
    (λ (s : p ≡ n).
    let k = size_same n Y X (λ q l. e q (omega arith)) in
    let a : cond {A = ℕ} (X n) 1 0 ≡ 0 = rw (← s, x) refl in
    let b : cond {A = ℕ} (Y p) 1 0 ≡ cond (Y n) 1 0 = ap (λ m. cond (Y m) 1 0) s in
    omega arith)
    (λ (ne : p ≡ n → ⊥).
    let lt : p < n = omega arith in
    let k = size_one_more n X Y p lt e x in
    let a : cond {A = ℕ} (Y n) 1 0 ≡ cond (X n) 1 0 = ap (λ b. cond b 1 0) (e n (λ s. ne (sym s))) in
    omega arith)
    (cases_eq p n)

-- a set of numbers below n has no more below a larger bound
pub size_within : (n k : ℕ) (S : ℕ → Bool) → ((q : ℕ) → S q ≡ true → q < n) → size (k + n) S ≡ size n S
unfolding size
size_within n zero S h = ap (λ m. size m S) (omega arith)
size_within n (suc k) S h =
    let e : suc k + n ≡ suc (k + n) = omega arith in
    let out : S (k + n) ≡ false = ⊎_elim
    (λ (t : S (k + n) ≡ true). absurd (omega (arith, h (k + n) t)))
    (λ (f : S (k + n) ≡ false). f)
    (cases_Bool (S (k + n))) in
    let z : cond {A = ℕ} (S (k + n)) 1 0 ≡ 0 = ap (λ b. cond b 1 0) out in
    ap (λ m. size m S) e ∙ omega (arith, z, size_within n k S h)

-- the set R with p as well
abbrev pub Adds : (ℕ → Bool) → ℕ → (ℕ → Bool) → Type 0
Adds R p R' = (q : ℕ) → R' q ≡ (eqb q p || R q)

pub adds_in : (R R' : ℕ → Bool) (p : ℕ) → p < 128 → ((q : ℕ) → R' q ≡ ((ltb p 128 && eqb q p) || R q)) → Adds R p R'
adds_in R R' p h a q = a q ∙ ap (λ b. (b && eqb q p) || R q) (lt-ltb p 128 h)

pub adds_inside : (R R' : ℕ → Bool) (p : ℕ) → Adds R p R' → Inside R R'
adds_inside R R' p a q r = a q ∙ or_right (eqb q p) (R q) r

pub adds_has : (R R' : ℕ → Bool) (p : ℕ) → Adds R p R' → R' p ≡ true
adds_has R R' p a = a p ∙ or_left (eqb p p) (R p) (eq-eqb p p refl)

pub adds_more : (n : ℕ) (R R' : ℕ → Bool) (p : ℕ) → p < n → R p ≡ false → Adds R p R' → size n R < size n R'
adds_more n R R' p h r a = size_more n R R' (adds_inside R R' p a) p h r (adds_has R R' p a)

-- where a pass that began at R₀ has come: it is at R, and the points of W are yet to be asked about
pub record Passing (n : ℕ) (f : ℕ → (ℕ → Bool) → Bool) (R₀ R : ℕ → Bool) (grew : Bool) (W : ℕ → Bool) : Type 0 where
  pub reached : Reached n f R
  pub kept : size n R₀ ≤ size n R
  pub more : grew ≡ true → size n R₀ < size n R
  pub points : (q : ℕ) → W q ≡ true → q < n
  pub fresh : (q : ℕ) → W q ≡ true → R q ≡ false
  pub done : grew ≡ false → (q : ℕ) → q < n → W q ≡ false → R q ≡ false → f q R ≡ false

-- the set W without p
abbrev pub Takes : (ℕ → Bool) → ℕ → (ℕ → Bool) → Type 0
Takes W p W' = (q : ℕ) → W' q ≡ (W q && not (eqb q p))

takes_inside : (W W' : ℕ → Bool) (p : ℕ) → Takes W p W' → Inside W' W
takes_inside W W' p a q e = (and_parts (W q) (not (eqb q p)) (sym (a q) ∙ e)).0

takes_gone : (W W' : ℕ → Bool) (p : ℕ) → Takes W p W' → W' p ≡ false
takes_gone W W' p a = a p ∙ ap (λ b. W p && not b) (eq-eqb p p refl) ∙ and_false (W p)
  where
    and_false : (b : Bool) → (b && false) ≡ false
    and_false true = refl
    and_false false = refl

-- whoever is out of W' was out of W, or is p
takes_cases : (W W' : ℕ → Bool) (p : ℕ) → Takes W p W' → (q : ℕ) → W' q ≡ false → (q ≡ p) ⊎ (W q ≡ false)
takes_cases W W' p a q e = elim (cases_eq q p) [
  | inl i ↦ inl i
  | inr n ↦ inr (go (W q) (sym e ∙ a q ∙ ap (λ b. W q && not b) (ne_eqb q p n)))
]
  where
    go : (b : Bool) → false ≡ (b && true) → b ≡ false
    go true h = sym h
    go false h = refl

pub takes_fewer : (n : ℕ) (W W' : ℕ → Bool) (p : ℕ) → p < n → W p ≡ true → Takes W p W' → size n W' < size n W
takes_fewer n W W' p h w a = size_more n W' W (takes_inside W W' p a) p h (takes_gone W W' p a) w

module _ (n : ℕ) (f : ℕ → (ℕ → Bool) → Bool) (grows : Grows f) where
  -- what lies apart from each shut set lies in the points outside it
  reached_outside : (R D : ℕ → Bool) → Reached n f R → Shut n f D → Inside R (outside n D)
  reached_outside R D k s q r =
      and_from (ltb q n) (not (D q)) (lt-ltb q n (k.points q r)) (not_from_false (D q) (k.apart D s q r))

  follows_apart : (R D : ℕ → Bool) (p : ℕ) → Reached n f R → f p R ≡ true → Shut n f D → D p ≡ false
  follows_apart R D p k h s = ⊎_elim
      (λ (t : D p ≡ true). absurd (both_ways _ (s.stuck p t) (grows p R (outside n D) (reached_outside R D k s) h)))
      (λ (t : D p ≡ false). t)
      (cases_Bool (D p))

  pub reached_more : (R R' : ℕ → Bool) (p : ℕ) → Reached n f R → p < n → f p R ≡ true → Adds R p R' → Reached n f R'
  reached_more R R' p k lt h a = record {
    points = λ q r. ⊎_elim
        (λ (e : eqb q p ≡ true). rw (eqb-true q p e) lt)
        (λ (e : R q ≡ true). k.points q e)
        (or_cases (eqb q p) (R q) (sym (a q) ∙ r));
    apart = λ D s q r. ⊎_elim
        (λ (e : eqb q p ≡ true). rw (eqb-true q p e) (follows_apart R D p k h s))
        (λ (e : R q ≡ true). k.apart D s q e)
        (or_cases (eqb q p) (R q) (sym (a q) ∙ r));
  }

  pub passing_none : (R W : ℕ → Bool) → Reached n f R → ((q : ℕ) → W q ≡ outside n R q) → Passing n f R R false W
  passing_none R W k w = record {
    reached = k;
    kept = omega arith;
    more = λ e. absurd (both_ways false refl e);
    points = λ q e. ltb-true q n (and_parts (ltb q n) (not (R q)) (sym (w q) ∙ e)).0;
    fresh = λ q e. not-true (R q) (and_parts (ltb q n) (not (R q)) (sym (w q) ∙ e)).1;
    done = λ e q h out r. absurd (both_ways (W q) out (w q ∙ and_from (ltb q n) (not (R q)) (lt-ltb q n h) (not_from_false (R q) r)));
  }

  module _ (R₀ R W W' : ℕ → Bool) (grew : Bool) (p : ℕ) (k : Passing n f R₀ R grew W) (member : W p ≡ true) (takes : Takes W p W') where
    pub passing_added : (R' : ℕ → Bool) → f p R ≡ true → Adds R p R' → Passing n f R₀ R' true W'
    passing_added R' follows a =
        let old = k.kept in let new = adds_more n R R' p (k.points p member) (k.fresh p member) a in
        record {
          reached = reached_more R R' p k.reached (k.points p member) follows a;
          kept = omega arith;
          more = λ e. omega arith;
          points = λ q e. k.points q (takes_inside W W' p takes q e);
          fresh = λ q e. elim (cases_eq q p) [
            | inl i ↦ absurd (both_ways (W' q) (ap W' i ∙ takes_gone W W' p takes) e)
            | inr i ↦ a q ∙ ap (λ b. b || R q) (ne_eqb q p i) ∙ k.fresh q (takes_inside W W' p takes q e)
          ];
          done = λ e. absurd (both_ways true e refl);
        }

    pub passing_kept : f p R ≡ false → Passing n f R₀ R grew W'
    passing_kept here = record {
      reached = k.reached;
      kept = k.kept;
      more = k.more;
      points = λ q e. k.points q (takes_inside W W' p takes q e);
      fresh = λ q e. k.fresh q (takes_inside W W' p takes q e);
      done = λ e q h out r. elim (takes_cases W W' p takes q out) [
        | inl i ↦ ap (λ x. f x R) i ∙ here
        | inr w ↦ k.done e q h w r
      ];
    }
