-- What a yes or a no says.
use Rattle.std.specs.Prelude.{Bool, true, false}

-- yes says that P holds, and no that it does not
abbrev pub Says : Bool → Type 0 → Type 0
Says true P = P
Says false P = P → ⊥
