-- What it is to play a tape. What lines do to a value of S is a relation: steps s line (Ok t) where the line makes t of s, and
-- steps s line (Err e) where it is refused with e.
use Rattle.std.specs.Prelude.{◌≡◌, ℕ, ◌<◌, ◌≤◌, List, [], ◌∷◌, length, take, Ok, Err, Result, MatchResult, slice_index_or}
use Rattle.refusals.specs.declared.Refusal.{Refusal}
use Rattle.refusals.specs.declared.Refusal.TheVariants.{LineRefused as line_refused, InputTooLong}
use Rattle.refusals.specs.Table.{number_of}
use Rattle.lines.specs.Pieces.{lines_of}
use Rattle.tape.specs.declared.tape.PlayRefusal.{PlayRefusal}
use Rattle.tape.specs.declared.tape.PlayRefusal.TheVariants.{LineRefused, TapeTooLong}

-- the most bytes that a tape may have
abbrev pub tape_room : ℕ
tape_room = 65536

-- the refusal as which a refusal to play is reported
abbrev pub reported : PlayRefusal → Refusal
reported (LineRefused told) = line_refused
reported TapeTooLong = InputTooLong

-- the number by which it is reported
abbrev pub play_number : PlayRefusal → ℕ
play_number refusal = number_of (reported refusal)

module _ {S : Type 0} (steps : S → List ℕ → Result S Refusal → Type 0) where
  -- a line was told to s, with the answer r, and left t; a refused line leaves s
  abbrev pub Told : S → List ℕ → Result (Unit {0}) Refusal → S → Type 0
  Told s line r t = MatchResult r (λ _. steps s line (Ok t)) (λ e. steps s line (Err e) × (t ≡ s))

  -- each of the lines is accepted in turn, and they lead from s to t
  abbrev pub Accepts : S → List (List ℕ) → S → Type 0
  Accepts s [] t = t ≡ s
  Accepts s (l ∷ ls) t = (u : S) × steps s l (Ok u) × Accepts u ls t

  -- the lines told are those before the first that is refused
  pub record Stopped (s : S) (tape : List ℕ) (told : ℕ) (t : S) : Type 0 where
    pub short : length tape ≤ tape_room
    pub within : told < length (lines_of tape)
    pub accepted : Accepts s (take told (lines_of tape)) t
    pub cause : Refusal
    pub refused : steps t (slice_index_or (lines_of tape) told []) (Err cause)

  -- a tape was played from s, with the answer r, and left t
  abbrev pub Played : S → List ℕ → Result ℕ PlayRefusal → S → Type 0
  Played s tape (Ok told) t = (length tape ≤ tape_room) × (told ≡ length (lines_of tape)) × Accepts s (lines_of tape) t
  Played s tape (Err (LineRefused told)) t = Stopped s tape told t
  Played s tape (Err TapeTooLong) t = (tape_room < length tape) × (t ≡ s)
