-- Laws of bytes laid into a buffer.
use Rattle.std.proofs.Common.{◌≡◌, ℕ, ◌+◌, ◌≤◌, List, [], ◌∷◌, ◌++◌, length, take, drop, set, sym, refl, ap, ◌∙◌, subst, add-zero, arith}
use Rattle.std.proofs.lemmas.List.{length-set, length-append, take_more_set, drop-set-lt, append_assoc, append-nil}
use Rattle.reports.specs.declared.page.Page.{Page}
use Rattle.reports.specs.Layout.{over, Puts, Takes}

pub length_over : (xs : List ℕ) (at : ℕ) (bs : List ℕ) → length (over xs at bs) ≡ length xs
length_over xs at [] = refl
length_over xs at (b ∷ bs) = length_over (set xs at b) (at + 1) bs ∙ length-set xs at b

pub over_append : (xs : List ℕ) (at : ℕ) (bs cs : List ℕ) → over (over xs at bs) (at + length bs) cs ≡ over xs at (bs ++ cs)
over_append xs at [] cs = ap (λ j. over xs j cs) (add-zero at)
over_append xs at (b ∷ bs) cs =
    ap (λ j. over (over (set xs at b) (at + 1) bs) j cs) (omega arith) ∙ over_append (set xs at b) (at + 1) bs cs

-- one after another
puts_then : {xs ys zs : List ℕ} {at mid next : ℕ} {bs cs : List ℕ} → Puts xs at bs ys mid → Puts ys mid cs zs next → Puts xs at (bs ++ cs) zs next
puts_then {xs} {ys} {zs} {at} {mid} {next} {bs} {cs} p q = record {
  after = q.after ∙ ap (λ l. over l mid cs) p.after ∙ ap (λ j. over (over xs at bs) j cs) p.place ∙ over_append xs at bs cs;
  place = simp length-append (omega (arith, p.place, q.place));
}

pub then : {p q r : Page} {bs cs : List ℕ} → Takes p bs q → Takes q cs r → Takes p (bs ++ cs) r
then h k = record { puts = puts_then h.puts k.puts; same_buffer = k.same_buffer ∙ h.same_buffer }

pub takes_as : {p q : Page} {bs cs : List ℕ} → Takes p bs q → bs ≡ cs → Takes p cs q
takes_as {p} {q} h e = subst (λ l. Takes p l q) e h

-- what lies before, in and after the bytes, where there is room
pub take_over : (xs : List ℕ) (at : ℕ) (bs : List ℕ) → at + length bs ≤ length xs → take (at + length bs) (over xs at bs) ≡ take at xs ++ bs
take_over xs at [] room = ap (λ j. take j xs) (add-zero at) ∙ sym (append-nil (take at xs))
take_over xs at (b ∷ bs) room =
    ap (λ j. take j (over (set xs at b) (at + 1) bs)) (omega arith)
    ∙ take_over (set xs at b) (at + 1) bs (omega (arith, length-set xs at b))
    ∙ ap (λ l. l ++ bs) (take_more_set xs at b (omega arith)) ∙ append_assoc (take at xs) (b ∷ []) bs

pub drop_over : (xs : List ℕ) (at : ℕ) (bs : List ℕ) (n : ℕ) → at + length bs ≤ n → drop n (over xs at bs) ≡ drop n xs
drop_over xs at [] n past = refl
drop_over xs at (b ∷ bs) n past = drop_over (set xs at b) (at + 1) bs n (omega arith) ∙ drop-set-lt n xs at b (omega arith)

-- bytes laid at the front of a buffer that has room for them
pub laid : (xs bs ys : List ℕ) (next : ℕ) → Puts xs 0 bs ys next → length bs ≤ length xs → (next ≡ length bs) × (take next ys ≡ bs) × (drop next ys ≡ drop next xs) × (next ≤ length xs)
laid xs bs ys next p room =
    let end : next ≡ length bs = omega (arith, p.place) in
    let front : take (0 + length bs) (over xs 0 bs) ≡ bs = take_over xs 0 bs (omega arith) in
    let rest = drop_over xs 0 bs next (omega arith) in
    (end, ap (take next) p.after ∙ ap (λ j. take j (over xs 0 bs)) p.place ∙ front, ap (drop next) p.after ∙ rest, omega arith)
