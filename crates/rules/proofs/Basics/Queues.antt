-- The queues: members of the arrivals, the callers at an entry, and the callers that a finishing task sends away.
use Rattle.std.proofs.Common.{◌≡◌, ℕ, Bool, true, false, not, ◌&&◌, eqb, ◌≢◌, ◌⊎◌, List, [], ◌∷◌, Contains, filter, sym, refl, ap, ◌∙◌, subst, inl, inr, arith}
use Rattle.std.specs.Cmp.{nat_eq_equiv}
use Rattle.std.proofs.lemmas.Bool.{and_parts, cases_Bool, cond-false, cond-true, eq-eqb, eqb-true, false≢true, ne_eqb}
use Rattle.std.proofs.lemmas.List.Elements.{All-contains, All-contains_itself, All-filter, All-head, All-same, filter_passes}
use Rattle.std.proofs.lemmas.Map.Views.{any-filter_same, Contains-from_any, list_any-from_Contains}
use Rattle.rules.specs.Changes.{dismiss, with_status}
use Rattle.rules.specs.Picture.{frames, Picture, queued_at, queued_at_server, queued_where, status, Task, without}
use Rattle.rules.specs.Rules.{Takes}
use Rattle.rules.specs.declared.vocabulary.Status.{Status}
use Rattle.rules.specs.declared.vocabulary.Status.TheVariants.{Accepting, Completed, Engaged, Leaving, NotBegun, Queued, Running, Terminated}

-- the members that pass a test
pub Contains-filter : (test : ℕ → Bool) (xs : List ℕ) (t : ℕ) → test t ≡ true → Contains xs t → Contains (filter test xs) t
Contains-filter test xs t h m = Contains-from_any eqb-true t (filter test xs)
    (any-filter_same (eqb t) test true (λ k e. subst (λ j. test j ≡ true) (eqb-true t k e) h) xs ∙ list_any-from_Contains nat_eq_equiv t xs m)

pub Contains-from_filter : (test : ℕ → Bool) (xs : List ℕ) (t : ℕ) → Contains (filter test xs) t → Contains xs t × (test t ≡ true)
Contains-from_filter test xs t m =
    (All-contains (Contains xs) (filter test xs) t (All-filter test (Contains xs) xs (All-contains_itself xs)) m, All-contains (λ x. test x ≡ true) (filter test xs) t (filter_passes test xs) m)

-- the first member that passes
pub filter_head : (test : ℕ → Bool) (xs : List ℕ) (c : ℕ) (rest : List ℕ) → filter test xs ≡ c ∷ rest → test c ≡ true
filter_head test xs c rest e = All-head (λ x. test x ≡ true) c rest (All-same (λ x. test x ≡ true) (c ∷ rest) (filter test xs) (sym e) (filter_passes test xs))

abbrev pub HasHead : List ℕ → Type 0
HasHead xs = (c : ℕ) × (rest : List ℕ) × (xs ≡ c ∷ rest)

pub has_head : (xs : List ℕ) (x : ℕ) → Contains xs x → HasHead xs
has_head [] x m = absurd (omega (arith, m.1))
has_head (c ∷ rest) x m = (c, rest, refl)

-- the arrivals without one task
pub Contains-without : (xs : List ℕ) (c t : ℕ) → c ≢ t → Contains xs t → Contains (without c xs) t
Contains-without xs c t n = Contains-filter (λ x. not (eqb x c)) xs t (ap not (ne_eqb t c (λ e. n (sym e))))

pub Contains-from_without : (xs : List ℕ) (c t : ℕ) → Contains (without c xs) t → Contains xs t × (c ≢ t)
Contains-from_without xs c t m = let h = Contains-from_filter (λ x. not (eqb x c)) xs t m in
    (h.0, λ e. false≢true (ap not (sym (eq-eqb t c (sym e))) ∙ h.1))

-- where a queued task waits
queued_where_is : (test : ℕ → ℕ → Bool) (S : Status) → queued_where test S ≡ true → (s : ℕ) × (e : ℕ) × (S ≡ Queued s e) × (test s e ≡ true)
queued_where_is test NotBegun h = absurd (cc)
queued_where_is test Running h = absurd (cc)
queued_where_is test (Queued s e) h = (s, e, refl, h)
queued_where_is test (Engaged _) h = absurd (cc)
queued_where_is test (Accepting _) h = absurd (cc)
queued_where_is test Leaving h = absurd (cc)
queued_where_is test Completed h = absurd (cc)
queued_where_is test Terminated h = absurd (cc)

pub queued_at_is : (s e : ℕ) (S : Status) → queued_at s e S ≡ true → S ≡ Queued s e
queued_at_is s e S h =
    let (r, f, k, t) = queued_where_is (λ r f. eqb r s && eqb f e) S h in
    let i = eqb-true r s (and_parts (eqb r s) (eqb f e) t).0 in
    let j = eqb-true f e (and_parts (eqb r s) (eqb f e) t).1 in
    cc

pub queued_at_server_queued : (s e : ℕ) → queued_at_server s (Queued s e) ≡ true
queued_at_server_queued s e = eq-eqb s s refl

pub queued_at_server_is : (s : ℕ) (S : Status) → queued_at_server s S ≡ true → (e : ℕ) × (S ≡ Queued s e)
queued_at_server_is s S h = let (r, f, k, t) = queued_where_is (λ r _. eqb r s) S h in let i = eqb-true r s t in (f, cc)

-- the callers that are sent away
abbrev pub Sent : Picture → ℕ → ℕ → Type 0
Sent p d x = (((dismiss p d).task x ≡ p.task x) × (queued_at_server d (status p x) ≡ false))
    ⊎ (((dismiss p d).task x ≡ with_status (p.task x) Running) × ((e : ℕ) × (status p x ≡ Queued d e)))

pub sent : (p : Picture) (d x : ℕ) → Sent p d x
sent p d x = elim (cases_Bool (queued_at_server d (status p x))) [
  | inl h ↦ inr (cond-true (queued_at_server d (status p x)) (with_status (p.task x) Running) (p.task x) h, queued_at_server_is d (status p x) h)
  | inr h ↦ inl (cond-false (queued_at_server d (status p x)) (with_status (p.task x) Running) (p.task x) h, h)
]

-- to prove something of every task after the dismissal
pub dismiss_each : (p : Picture) (a : ℕ) (P : ℕ → Task → Type 0) → ((t e : ℕ) → status p t ≡ Queued a e → P t (with_status (p.task t) Running))
    → ((t : ℕ) → queued_at_server a (status p t) ≡ false → P t (p.task t)) → (t : ℕ) → P t ((dismiss p a).task t)
dismiss_each p a P x y t = elim (sent p a t) [
  | inl (e, h) ↦ subst (P t) (sym e) (y t h)
  | inr (e, (f, h)) ↦ subst (P t) (sym e) (x t f h)
]

pub dismiss_frames : (p : Picture) (a t : ℕ) → frames (dismiss p a) t ≡ frames p t
dismiss_frames p a = dismiss_each p a (λ t w. w.frames ≡ frames p t) (λ _ _ _. refl) (λ _ _. refl)

pub dismiss_master : (p : Picture) (a t : ℕ) → ((dismiss p a).task t).master ≡ (p.task t).master
dismiss_master p a = dismiss_each p a (λ t w. w.master ≡ (p.task t).master) (λ _ _ _. refl) (λ _ _. refl)

-- the caller that an accept takes is queued
pub taken : (p : Picture) (a mask c e : ℕ) → Takes p a mask c e → status p c ≡ Queued a e
taken p a mask c e k = queued_at_is a e (status p c) (filter_head (λ t. queued_at a e (status p t)) p.arrivals c k.rest k.head)
