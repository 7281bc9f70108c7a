-- The level of the innermost frame that passes a test, as a search from the back of the open frames finds it.
use Rattle.std.proofs.Common.{◌≡◌, ℕ, suc, ◌+◌, ◌-◌, ◌<◌, Bool, true, false, not, cond, List, [], ◌∷◌, reverse, length, Some, None, Option, MatchOption, sym, refl, ap, ◌∙◌, subst, arith}
use Rattle.std.specs.Option.{IsSomeAnd, IfSome, option_map}
use Rattle.std.specs.List.{position_or_len}
use Rattle.std.specs.Slice.Iter.{iter_rest, iter_steps_back}
use Rattle.std.proofs.lemmas.List.{reverse-append, length-reverse}
use Rattle.std.proofs.lemmas.Iterator.{YieldsList}
use Rattle.std.proofs.lemmas.Iterator.Consumers.{YieldsList-from_shown}
use Rattle.std.proofs.lemmas.Iterator.Search.{position_from_yields_List}
use Rattle.std.proofs.lemmas.Bool.{ltb-true, ltb-false}
use Rattle.std.specs.Iterator.{FindsPositionBack}
use denote.Param.Members.{Mut, Called}
use denote.Ref.{Bor}
use lib.Dec.{ltb, eqb}
use Rattle.std.proofs.Common.{Iter}
use Rattle.rules.specs.declared.vocabulary.Frame.{Frame}
use Rattle.rules.specs.declared.vocabulary.Frame.TheVariants.{Block, Rendezvous}
use Rattle.rules.specs.Picture.{innermost_block, rendezvous_level}
use Rattle.tasks.specs.Levels.{level_where}

-- how far from the top the frame lies tells its level
level_at : (p : Frame → Bool) (fs : List Frame) → level_where p fs ≡ length fs - position_or_len p fs
level_at p [] = refl
level_at p (f ∷ fs) = go (p f) (level_at p fs)
  where
    go : (b : Bool) → level_where p fs ≡ length fs - position_or_len p fs → cond b (suc (length fs)) (level_where p fs) ≡ suc (length fs) - cond (not b) (1 + position_or_len p fs) 0
    go true e = omega arith
    go false e = omega arith

-- a search from the back of the frames, said as one from the front of their reverse
road : (s : Iter Frame) → YieldsList (iter_steps_back {A = Frame}) (λ y. y.now) s (reverse (iter_rest s))
road s = YieldsList-from_shown iter_steps_back (λ y. y.now) (λ t. reverse (iter_rest t)) (λ s t e. length-reverse (iter_rest s) ∙ e.0) (λ s x t e. ap reverse e ∙ reverse-append (iter_rest t) (x.now ∷ [])) s

turned : {A : Type 0} (n : ℕ) (Q : A → Type 0) (k : ℕ) (o : Option A) (r : Option ℕ) → MatchOption o (r ≡ None) (λ x. IsSomeAnd r (λ i. i + 1 + k ≡ n) × Q x)
    → MatchOption o (option_map (λ i. n - 1 - i) r ≡ None) (λ x. (option_map (λ i. n - 1 - i) r ≡ Some k) × Q x)
turned n Q k None r e = ap (option_map (λ i. n - 1 - i)) e
turned n Q k (Some x) None h = absurd h.0
turned n Q k (Some x) (Some i) h = (let e : n - 1 - i ≡ k = omega (arith, h.0) in ap Some e, h.1)

-- the level, from the place counted from the bottom
counted : (p : Frame → Bool) (fs : List Frame) (r : Option ℕ) (v : ℕ) → option_map (λ i. length fs - 1 - i) r ≡ cond (ltb (position_or_len p fs) (length fs)) (Some (position_or_len p fs)) None
    → IfSome r (λ i. i < length fs) → MatchOption r (v ≡ 0) (λ i. v ≡ i + 1) → v ≡ level_where p fs
counted p fs r v e b m = go r (ltb (position_or_len p fs) (length fs)) refl e b m
  where
    go : (r : Option ℕ) (c : Bool) → ltb (position_or_len p fs) (length fs) ≡ c → option_map (λ i. length fs - 1 - i) r ≡ cond c (Some (position_or_len p fs)) None
        → IfSome r (λ i. i < length fs) → MatchOption r (v ≡ 0) (λ i. v ≡ i + 1) → v ≡ level_where p fs
    go None true t e b m = absurd (cc)
    go None false t e b m = let past = ltb-false _ _ t in omega (arith, level_at p fs, past)
    go (Some i) true t e b m = let j : length fs - 1 - i ≡ position_or_len p fs = cc in let at = ltb-true _ _ t in omega (arith, level_at p fs, at)
    go (Some i) false t e b m = absurd (cc)

pub level_from : {F : Type 0} (g : Mut F (Bor Frame × Unit {0}) Bool) (s u : Iter Frame) (f : F) (r : Option ℕ) (v : ℕ) (p : Frame → Bool)
    → FindsPositionBack iter_steps_back g s f (length (iter_rest s)) r u
    → ((x : Bor Frame) (b : Bool) (q : F) → Called g f (x, tt) b q → (q ≡ f) × (b ≡ p x.now))
    → IfSome r (λ i. i < length (iter_rest s)) → MatchOption r (v ≡ 0) (λ i. v ≡ i + 1) → v ≡ level_where p (reverse (iter_rest s))
level_from g s u f r v p ran says b m =
    let n = length (iter_rest s) in
    let fs = reverse (iter_rest s) in
    let place = option_map (λ i. n - 1 - i) r in
    let found = position_from_yields_List {g = g} {all = fs} p u f place (ran.0, ran.1, ran.2, ran.3, ran.4, turned n (λ x. (h : _) × Called g ran.2 (x, tt) true h) (length ran.0) ran.1 r ran.5) (road s) says in
    let same : n ≡ length fs = sym (length-reverse (iter_rest s)) in
    counted p fs r v (subst (λ k. option_map (λ i. k - 1 - i) r ≡ cond (ltb (position_or_len p fs) (length fs)) (Some (position_or_len p fs)) None) same found) (subst (λ k. IfSome r (λ i. i < k)) same b) m

pub counts : (r : Option ℕ) (v : ℕ) → (r ≡ None → v ≡ 0) → ((i : ℕ) → r ≡ Some i → v ≡ i + 1) → MatchOption r (v ≡ 0) (λ i. v ≡ i + 1)
counts None v n s = n refl
counts (Some i) v n s = s i refl

-- ---- the two tests

abbrev pub is_block : Frame → Bool
is_block Block = true
is_block (Rendezvous _ _) = false

abbrev pub is_with : ℕ → Frame → Bool
is_with c Block = false
is_with c (Rendezvous b _) = eqb b c

pub block_level : (fs : List Frame) → level_where is_block fs ≡ innermost_block fs
block_level [] = refl
block_level (Block ∷ fs) = refl
block_level (Rendezvous c e ∷ fs) = block_level fs

pub partner_level : (c : ℕ) (fs : List Frame) → level_where (is_with c) fs ≡ rendezvous_level c fs
partner_level c [] = refl
partner_level c (Block ∷ fs) = partner_level c fs
partner_level c (Rendezvous b e ∷ fs) = ap (cond (eqb b c) (suc (length fs))) (partner_level c fs)
