-- Bytes laid into a buffer.
use Rattle.std.specs.Prelude.{◌≡◌, ℕ, ◌+◌, List, [], ◌∷◌, length, slice_set}
use Rattle.reports.specs.declared.page.Page.{Page}

-- xs with the bytes bs from the place at on, as far as it has places
abbrev pub over : List ℕ → ℕ → List ℕ → List ℕ
over xs at [] = xs
over xs at (b ∷ bs) = over (slice_set xs at b) (at + 1) bs

-- bs was laid into xs at a place: ys is what it holds now, and next the place after bs
pub record Puts (xs : List ℕ) (at : ℕ) (bs : List ℕ) (ys : List ℕ) (next : ℕ) : Type 0 where
  pub after : ys ≡ over xs at bs
  pub place : next ≡ at + length bs

-- the page p took the bytes bs, and became q, over the same buffer
pub record Takes (p : Page) (bs : List ℕ) (q : Page) : Type 0 where
  pub puts : Puts p.buf.now p.at bs q.buf.now q.at
  pub same_buffer : q.buf.ghost_name ≡ p.buf.ghost_name
