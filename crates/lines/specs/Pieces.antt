-- A list of bytes, cut at a byte: the fields of a line, and the lines of an input.
use Rattle.std.specs.Prelude.{◌≡◌, ℕ, ◌<◌, cond, ◌⊎◌, List, [], ◌∷◌, ◌++◌, length, Option, MatchOption, ◌==◌, ◌≢◌, slice_index}
use Rattle.std.specs.Borrow.{Bor}
use Rattle.std.specs.List.{flat_map, slice_split, onto_first, AllByRecursion}

-- what stands between the bytes c: one piece more than there are bytes c
abbrev pub pieces : ℕ → List ℕ → List (List ℕ)
pieces c = slice_split (λ b. b == c)

-- the lines of an input: each is ended by byte 10, the last end is optional, and an empty input has no line
abbrev pub lines_of : List ℕ → List (List ℕ)
lines_of [] = []
lines_of (b ∷ bs) = cond (b == 10) ([] ∷ lines_of bs) (onto_first b (lines_of bs))

-- the byte c is not in bs
abbrev pub Lacks : ℕ → List ℕ → Type 0
Lacks c bs = (k : ℕ) → k < length bs → slice_index bs k ≢ c

-- r is what stands before the first c of s, and what follows it
abbrev pub Cut : ℕ → List ℕ → Bor (List ℕ) × Option (Bor (List ℕ)) → Type 0
Cut c s r = Lacks c r.0.now × MatchOption r.1 (s ≡ r.0.now) (λ t. s ≡ r.0.now ++ (c ∷ t.now))

-- a line with its end
abbrev pub ended : List ℕ → List ℕ
ended l = l ++ (10 ∷ [])

-- ls are the lines of an input: with their ends they are the input, or the input with its last end, and no line has byte 10
pub record Lines (input : List ℕ) (ls : List (List ℕ)) : Type 0 where
  pub whole : (input ≡ flat_map ended ls) ⊎ (input ++ (10 ∷ []) ≡ flat_map ended ls)
  pub plain : AllByRecursion (Lacks 10) ls

-- r is the first line of an input and what follows it, which is less; none where the input is empty
abbrev pub NextLine : List ℕ → Option (Bor (List ℕ) × Bor (List ℕ)) → Type 0
NextLine input r = MatchOption r (input ≡ []) (λ x. (lines_of input ≡ x.0.now ∷ lines_of x.1.now) × (length x.1.now < length input))
