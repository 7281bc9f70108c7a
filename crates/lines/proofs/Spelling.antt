-- Lines and their fields: a letter and numbers are told by the line that spells them, and every such line is read.
use Rattle.std.proofs.Common.{◌≡◌, ℕ, zero, suc, ◌+◌, ◌-◌, ◌<◌, ◌≤◌, false, eqb, List, [], ◌∷◌, ◌++◌, map, length, get_or, take, drop, Ok, Err, decimal, Result, sym, refl, ap, ◌∙◌, subst, add-one, arith, ne_eqb}
use Rattle.std.specs.List.{join_with_byte, AllByRecursion, All}
use Rattle.std.proofs.lemmas.List.{length-map, get_or-map, length-take, length-take-le, get_or-take, append-nil, ext_get_or}
use Rattle.std.proofs.ByRecursion as recursion
use Rattle.std.proofs.lemmas.List.Elements.{All-from_get_or}
use Rattle.std.proofs.lemmas.List.Splits.{slice_split_none, slice_split_at, join_with_byte-slice_split}
use Rattle.std.proofs.lemmas.Str.Parse.{not_in_digits}
use Rattle.std.proofs.lemmas.Fmt.{digits_decimal, decimal_injective}
use Rattle.refusals.specs.declared.Refusal.{Refusal}
use Rattle.refusals.specs.Checks.{FirstRefusal}
use Rattle.refusals.proofs.Checks.{none_refuses}
use Rattle.lines.specs.declared.fields.Fields.{Fields}
use Rattle.lines.specs.Pieces.{pieces}
use Rattle.lines.specs.Numbers.{Numeral}
use Rattle.lines.specs.Lines.{spell, Small, fields, field, Numbered, FirstBad, numbers, line_checks, Spelled, Reads, ReadsBack}
use Rattle.lines.proofs.Figures.{own}

-- a letter and numbers, as fields and as a line
rejoined_numbers : (p ns : List ℕ) → join_with_byte 44 (p ∷ map decimal ns) ≡ p ++ drop 1 (spell 0 ns)
rejoined_numbers p [] = sym (append-nil p)
rejoined_numbers p (n ∷ ns) = ap (λ l. p ++ (44 ∷ l)) (rejoined_numbers (decimal n) ns)

pub line_from_fields : (line : List ℕ) (l : ℕ) (ns : List ℕ) → fields line ≡ (l ∷ []) ∷ map decimal ns → line ≡ spell l ns
line_from_fields line l ns e = sym (join_with_byte-slice_split 44 line) ∙ ap (join_with_byte 44) e ∙ rejoined_numbers (l ∷ []) ns

-- no byte of p is a comma
abbrev Bare : List ℕ → Type 0
Bare p = All (λ b. eqb b 44 ≡ false) p

bare_number : (n : ℕ) → n ≤ 999 → Bare (decimal n)
bare_number n small =
    All-from_get_or (λ b. eqb b 44 ≡ false) (decimal n) 0 (λ i lt. ne_eqb _ 44 (not_in_digits own (decimal n) 44 (digits_decimal own n (omega arith)) (λ d. omega arith) i lt))

bare_letter : (l : ℕ) → (l ≡ 44 → ⊥) → Bare (l ∷ [])
bare_letter l ne zero d lt = ne_eqb l 44 ne
bare_letter l ne (suc i) d lt = absurd (omega arith)

pieces_numbers : (p ns : List ℕ) → Bare p → Small ns → pieces 44 (p ++ drop 1 (spell 0 ns)) ≡ p ∷ map decimal ns
pieces_numbers p [] bare small = ap (pieces 44) (append-nil p) ∙ slice_split_none _ p bare
pieces_numbers p (n ∷ ns) bare (here, there) =
    slice_split_at _ p 44 (decimal n ++ drop 1 (spell 0 ns)) bare refl ∙ ap (λ l. p ∷ l) (pieces_numbers (decimal n) ns (bare_number n here) there)

pub fields_spell : (l : ℕ) (ns : List ℕ) → (l ≡ 44 → ⊥) → Small ns → fields (spell l ns) ≡ (l ∷ []) ∷ map decimal ns
fields_spell l ns ne small = pieces_numbers (l ∷ []) ns (bare_letter l ne) small

same_numbers : (ms ns : List ℕ) → AllByRecursion (λ n. n ≤ 999) ms → AllByRecursion (λ n. n ≤ 999) ns → map decimal ms ≡ map decimal ns → ms ≡ ns
same_numbers [] [] p q e = refl
same_numbers [] (n ∷ ns) p q e = absurd (omega (arith, ap length e))
same_numbers (m ∷ ms) [] p q e = absurd (omega (arith, ap length e))
same_numbers (m ∷ ms) (n ∷ ns) (p, ps) (q, qs) e =
    let here : m ≡ n = decimal_injective m n (omega arith) (omega arith) (ap (λ l. get_or l 0 []) e) in
    let there : ms ≡ ns = same_numbers ms ns ps qs (ap (drop 1) e) in cc

module _ (known : ℕ → Type 0) (counted : ℕ → ℕ → Type 0) (comma : known 44 → ⊥) where
  -- what is told of a line that spells l and ns
  module _ (line : List ℕ) (l : ℕ) (ns : List ℕ) (s : Spelled known counted line l ns) where
    told : fields line ≡ (l ∷ []) ∷ map decimal ns
    told = ap fields s.spelled ∙ fields_spell l ns (λ e. comma (subst known e s.letter)) s.small

    told_count : length (fields line) ≡ length ns + 1
    told_count = ap length told ∙ omega (arith, length-map ns decimal)

    told_letter : field line 0 ≡ l ∷ []
    told_letter = ap (λ fs. get_or fs 0 []) told

    numeral : (i : ℕ) → i + 1 < length (fields line) → Numeral (field line (i + 1))
    numeral i lt =
        let within : i < length ns = omega (arith, told_count) in (
          get_or ns i 0,
          recursion.All-get_or (λ n. n ≤ 999) ns i 0 within s.small,
          ap (λ fs. get_or fs (i + 1) []) told ∙ rw add-one (get_or-map decimal ns i 0 [] within),
        )

    pub not_refused : (e : Refusal) → FirstRefusal (line_checks known counted line) e → ⊥
    not_refused e = none_refuses (line_checks known counted line) e (
      λ h. h (omega (arith, ap length s.spelled), s.short),
      (
        λ h. h (l, told_letter, s.letter),
        (
          λ h. h (λ m n first count. same_count m n (ap (λ f. get_or f 0 0) (sym first ∙ told_letter)) (omega (arith, count, told_count))),
          (λ h. h numeral, tt),
        ),
      ),
    )
      where
        same_count : (m n : ℕ) → m ≡ l → n ≡ length ns → counted m n
        same_count m n p q = rw (p, q) s.count

  -- one line spells one letter and one list of numbers
  pub spelled_once : (line : List ℕ) (l m : ℕ) (ns ms : List ℕ) → Spelled known counted line l ns → Spelled known counted line m ms → (l ≡ m) × (ns ≡ ms)
  spelled_once line l m ns ms s t =
      let same = sym (told line l ns s) ∙ told line m ms t in
      (ap (λ fs. get_or (get_or fs 0 []) 0 0) same, same_numbers ns ms s.small t.small (ap (drop 1) same))

  pub reads_back : (line : List ℕ) (r : Result Fields Refusal) → Reads known counted line r → ReadsBack known counted line r
  reads_back line (Ok f) h l ns s = spelled_once line f.letter l (numbers f) ns h s
  reads_back line (Err e) h l ns s = not_refused line l ns s e h

-- a line whose fields are a letter and numbers
pub fields_from : (line : List ℕ) (l n : ℕ) (vs : List ℕ) → field line 0 ≡ l ∷ [] → n + 1 ≡ length (fields line) → n ≤ length vs
    → ((i : ℕ) → i + 1 < length (fields line) → (get_or vs i 0 ≤ 999) × (field line (i + 1) ≡ decimal (get_or vs i 0)))
    → fields line ≡ (l ∷ []) ∷ map decimal (take n vs)
fields_from line l n vs first counted room each =
    let size = length-take-le n vs room in
    ext_get_or [] (fields line) _ (omega (arith, length-map (take n vs) decimal)) at
  where
    at : (i : ℕ) → i < length (fields line) → get_or (fields line) i [] ≡ get_or ((l ∷ []) ∷ map decimal (take n vs)) i []
    at zero lt = first
    at (suc i) lt =
        let size = length-take-le n vs room in
        let here : i < n = omega arith in
        ap (field line) (sym (add-one i)) ∙ (each i (omega arith)).1 ∙ ap decimal (sym (get_or-take n vs i 0 here)) ∙ sym (get_or-map decimal (take n vs) i 0 [] (omega arith))

pub small_front : (n : ℕ) (vs : List ℕ) → ((i : ℕ) → i < n → get_or vs i 0 ≤ 999) → Small (take n vs)
small_front n vs each =
    recursion.All-from_get_or (λ m. m ≤ 999) (take n vs) 0 (λ i lt. let here : i < n = omega (arith, length-take n vs) in omega (arith, get_or-take n vs i 0 here, each i here))

-- where a field is bad, not all are numbers
pub no_number : (line : List ℕ) {i : ℕ} → FirstBad line i → Numbered line → ⊥
no_number line {i} first all =
    let back : i - 1 + 1 ≡ i = omega (arith, first.after_letter) in
    first.bad (subst (λ j. Numeral (field line j)) back (all (i - 1) (omega (arith, first.after_letter, first.within))))
