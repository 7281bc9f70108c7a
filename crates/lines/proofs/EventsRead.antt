-- The line of an event is read as that event.
use Rattle.std.proofs.Common.{ℕ, ◌+◌, ◌*◌, ◌≤◌, List, [], ◌∷◌, length, Ok, Err, Result, sym, refl, ap, ◌∙◌, subst, arith}
use Rattle.std.proofs.lemmas.Fmt.{length-decimal-le}
use Rattle.std.proofs.lemmas.List.{length-append}
use Rattle.refusals.specs.declared.Refusal.{Refusal}
use Rattle.rules.specs.declared.vocabulary.Event.{Event}
use Rattle.lines.specs.Lines.{spell, Small, Spelled}
use Rattle.lines.specs.Events.{letter, kind, numbers, spell_event, known, counted, ReadsEvent, ReadsEveryEvent}
use Rattle.lines.proofs.Letters.{kind_from_letter, no_comma, event_told, length_numbers, arity_most}
use Rattle.lines.proofs.Spelling.{spelled_once, not_refused}

pub comma : known 44 → ⊥
comma k = no_comma k.0 k.1

-- a letter and numbers of at most three digits
length_spell : (l : ℕ) (ns : List ℕ) → Small ns → length (spell l ns) ≤ 1 + 4 * length ns
length_spell l [] small = omega arith
length_spell l (n ∷ ns) (here, there) =
    simp length-append (omega (arith, length-decimal-le 3 n (omega arith) (omega arith) (omega arith), length_spell l ns there))

spelled : (v : Event) → Small (numbers v) → Spelled known counted (spell_event v) (letter (kind v.action)) (numbers v)
spelled v small = record {
  spelled = refl;
  short = omega (arith, length_spell (letter (kind v.action)) (numbers v) small, length_numbers v, arity_most (kind v.action));
  letter = (kind v.action, refl);
  count = (kind v.action, refl, length_numbers v);
  small = small;
}

pub reads_every : (line : List ℕ) (r : Result Event Refusal) → ReadsEvent line r → ReadsEveryEvent line r
reads_every line (Ok w) h v same small =
    let is = sym h.0 ∙ same in
    let once = spelled_once known counted comma (spell_event v) (letter (kind w.action)) (letter (kind v.action)) (numbers w) (numbers v)
    (subst (λ l. Spelled known counted l (letter (kind w.action)) (numbers w)) is (spelled w h.1)) (spelled v small) in
    ap Ok (event_told w v (kind_from_letter (kind w.action) (kind v.action) once.0) once.1)
reads_every line (Err e) h v same small =
    absurd (not_refused known counted comma line (letter (kind v.action)) (numbers v)
    (subst (λ l. Spelled known counted l (letter (kind v.action)) (numbers v)) (sym same) (spelled v small)) e h)
