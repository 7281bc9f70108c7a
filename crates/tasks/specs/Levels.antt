-- The level of an open frame.
use Rattle.std.specs.Prelude.{ℕ, suc, Bool, cond, List, [], ◌∷◌, length}
use Rattle.rules.specs.declared.vocabulary.Frame.{Frame}

-- the level of the innermost frame that passes, 0 where none does; the frames stand innermost first
abbrev pub level_where : (Frame → Bool) → List Frame → ℕ
level_where passes [] = 0
level_where passes (f ∷ fs) = cond (passes f) (suc (length fs)) (level_where passes fs)
