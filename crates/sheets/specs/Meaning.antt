-- The rows of a wait sheet: its meaning is a wait book's, and a row that is put in changes it at one party.
use Rattle.std.specs.Prelude.{◌≡◌, ℕ, ◌+◌, ◌<◌, ◌≤◌, Bool, true, false, cond, ◌&&◌, ◌||◌, List, length, get_or, take, replicate, Some, None, count_by, Option, ◌==◌, ◌≢◌, nat_eq, nat_le, nat_lt, slice_index, slice_index_or, slice_set, refl}
use Rattle.std.proofs.Common.{sym, ap, ◌∙◌, ⊎_elim, arith, below_more}
use Rattle.std.proofs.lemmas.List.Sums.{sum_by_more}
use Rattle.std.proofs.lemmas.List.{get_or-replicate, get_or-set_same, get_or-set_other, take_all}
use Rattle.std.proofs.lemmas.Bool.{both_ways, leb-true, le-leb, lt-ltb, le-ltb, cases_lt, and_parts, and_from, and_left, eqb-true, ne_eqb, eq-eqb, or_cases, cases_eq}
use Rattle.books.specs.Points.{has}
use Rattle.books.specs.Shut.{Inside, Grows, size}
use Rattle.sheets.specs.Rows.{Once}
use Rattle.sheets.specs.Sheets.{follow, row_follow, Replaces}
use Rattle.sheets.specs.declared.sheet.Row.{Row}
use Rattle.sheets.specs.declared.sheet.WaitSheet.{WaitSheet}
use Rattle.books.proofs.Sets.{size_inside, size_none, size_one_more, Adds, adds_inside, adds_has}

pub row_grows : (o : Option Row) (S T : ℕ → Bool) → Inside S T → row_follow o S ≡ true → row_follow o T ≡ true
row_grows None S T i h = refl
row_grows (Some r) S T i h =
    let A = has r.listed in
    let more : Inside (λ q. A q && S q) (λ q. A q && T q) = λ q e. let both = and_parts (A q) (S q) e in and_from (A q) (T q) both.0 (i q both.1) in
    let k = size_inside 128 (λ q. A q && S q) (λ q. A q && T q) more in
    let l = leb-true r.needs (size 128 (λ q. A q && S q)) h in
    le-leb r.needs (size 128 (λ q. A q && T q)) (omega arith)

pub follow_grows : (b : WaitSheet) → Grows (follow b)
unfolding follow
follow_grows b p S T i h =
    let both = and_parts (nat_lt p 96) (row_follow (slice_index_or b.rows p None) S) h in
    and_from (nat_lt p 96) (row_follow (slice_index_or b.rows p None) T) both.0 (row_grows (slice_index_or b.rows p None) S T i both.1)

pub follow_beyond : (b : WaitSheet) (p : ℕ) (S : ℕ → Bool) → 96 ≤ p → follow b p S ≡ false
unfolding follow
follow_beyond b p S h = and_left (nat_lt p 96) (row_follow (slice_index_or b.rows p None) S) (le-ltb p 96 h)

pub follow_is : (b : WaitSheet) (p : ℕ) (S : ℕ → Bool) (o : Option Row) → p < 96 → slice_index_or b.rows p None ≡ o → follow b p S ≡ row_follow o S
unfolding follow
follow_is b p S o h e = rw (lt-ltb p 96 h, e) refl

pub follow_other : (b c : WaitSheet) (p : ℕ) (S : ℕ → Bool) → slice_index_or c.rows p None ≡ slice_index_or b.rows p None → follow c p S ≡ follow b p S
unfolding follow
follow_other b c p S e = ap (λ o. nat_lt p 96 && row_follow o S) e

pub follow_none : (p : ℕ) (S : ℕ → Bool) → follow (record { rows = replicate 96 None }) p S ≡ nat_lt p 96
follow_none p S = ⊎_elim
    (λ (h : p < 96). follow_is (record { rows = replicate 96 None }) p S None h (get_or-replicate 96 p None None h) ∙ sym (lt-ltb p 96 h))
    (λ (h : 96 ≤ p). follow_beyond (record { rows = replicate 96 None }) p S h ∙ sym (le-ltb p 96 h))
    (cases_lt p 96)

-- A is the set of the first i of ps, each of which stands there once
pub record Gathered (ps : List ℕ) (A : ℕ → Bool) (i : ℕ) : Type 0 where
  pub within : i ≤ length ps
  pub from : (q : ℕ) → A q ≡ true → (j : ℕ) × (j < i) × (slice_index ps j ≡ q)
  pub into : (j : ℕ) → j < i → A (slice_index ps j) ≡ true
  pub once : (a b : ℕ) → a < b → b < i → slice_index ps a ≢ slice_index ps b
  pub counted : (S : ℕ → Bool) → size 128 (λ q. A q && S q) ≡ count_by S (take i ps)

pub gathered_none : (ps : List ℕ) (A : ℕ → Bool) → ((q : ℕ) → A q ≡ false) → Gathered ps A 0
gathered_none ps A none = record {
  within = omega arith;
  from = λ q a. absurd (both_ways (A q) (none q) a);
  into = λ j h. absurd (omega arith);
  once = λ a b l h. absurd (omega arith);
  counted = λ S. size_none 128 (λ q. A q && S q) (λ q. and_left (A q) (S q) (none q));
}

pub gathered_more : (ps : List ℕ) (A B : ℕ → Bool) (i : ℕ) → Gathered ps A i → i < length ps → slice_index ps i < 128 → A (slice_index ps i) ≡ false → Adds A (slice_index ps i) B → Gathered ps B (i + 1)
gathered_more ps A B i k h lt new adds =
    let p = get_or ps i 0 in
    record {
      within = omega arith;
      from = λ q b. ⊎_elim
          (λ (e : nat_eq q p ≡ true). (i, omega arith, sym (eqb-true q p e)))
          (λ (a : A q ≡ true). let f = k.from q a in (f.0, omega (arith, f.1), f.2))
          (or_cases (q == p) (A q) (sym (adds q) ∙ b));
      into = below_more (λ j. B (slice_index ps j) ≡ true) i (λ j l. adds_inside A B p adds (slice_index ps j) (k.into j l)) (adds_has A B p adds);
      once = λ a b l h e. below_more (λ b. a < b → slice_index ps a ≢ slice_index ps b) i
          (λ b h l e. k.once a b l h e)
          (λ l e. both_ways (A p) new (rw (← e) (k.into a l))) b h l e;
      counted = λ S.
          let agree : (q : ℕ) → (q ≢ p) → (B q && S q) ≡ (A q && S q) = λ q ne. ap (λ b. b && S q) (adds q ∙ ap (λ b. b || A q) (ne_eqb q p ne)) in
          let one = size_one_more 128 (λ q. A q && S q) (λ q. B q && S q) p lt agree (and_left (A p) (S p) new) in
          let here : cond {A = ℕ} (B p && S p) 1 0 ≡ cond (S p) 1 0 = ap (λ b. cond (b && S p) 1 0) (adds_has A B p adds) in
          let more = sum_by_more (λ x. cond (S x) 1 0) ps i 0 h in
          one ∙ ap (λ x. size 128 (λ q. A q && S q) + x) here ∙ ap (λ x. x + cond (S p) 1 0) (k.counted S) ∙ sym more;
    }

pub gathered_all : (ps : List ℕ) (A : ℕ → Bool) (i : ℕ) → Gathered ps A i → length ps ≤ i → Once ps × ((S : ℕ → Bool) → size 128 (λ q. A q && S q) ≡ count_by S ps)
gathered_all ps A i k h = (λ a b l r e. k.once a b l (omega (arith, h)) e, λ S. k.counted S ∙ ap (λ xs. count_by S xs) (take_all i ps h))

-- a row that is put in
pub replaced : (b : WaitSheet) (party k : ℕ) (row : Row) (ps : List ℕ) → party < 96 → length b.rows ≡ 96 → row.needs ≡ k
    → ((S : ℕ → Bool) → size 128 (λ q. has row.listed q && S q) ≡ count_by S ps)
    → Replaces (follow b) party k ps (follow (record { rows = slice_set b.rows party (Some row) }))
replaced b party k row ps lt len ek counted p S = ⊎_elim
    (λ (e : p ≡ party).
    follow_is _ p S (Some row) (rw e lt) (rw e (get_or-set_same b.rows party (Some row) None (rw len lt)))
    ∙ ap (λ x. nat_le x (size 128 (λ q. has row.listed q && S q))) ek ∙ ap (nat_le k) (counted S)
    ∙ rw (eq-eqb p party e) refl)
    (λ (ne : p ≡ party → ⊥).
    follow_other b (record { rows = slice_set b.rows party (Some row) }) p S (get_or-set_other b.rows party p (Some row) None ne)
    ∙ rw (ne_eqb p party ne) refl)
    (cases_eq p party)
