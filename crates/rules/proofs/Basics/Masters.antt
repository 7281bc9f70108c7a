-- Masters: a task has one; and what the masters are once a block has closed and let its dependents go, which are all Terminated.
use Rattle.std.proofs.Common.{◌≡◌, ℕ, suc, Bool, cond, ◌&&◌, eqb, ◌⊎◌, Some, None, Option, sym, refl, ap, ◌∙◌, subst, inl, inr, arith}
use Rattle.std.proofs.lemmas.Bool.{and_from, and_parts, cases_Bool, cond-true, eq-eqb, eqb-true}
use Rattle.rules.specs.Changes.{freed, let_go}
use Rattle.rules.specs.Picture.{Depends, Over, Picture, status, under}
use Rattle.rules.specs.declared.vocabulary.Master.{Master}
use Rattle.rules.specs.declared.vocabulary.Status.TheVariants.{Terminated}

-- a task has one master
pub same_master : (x : Option Master) (m l n k : ℕ) → x ≡ under m l → x ≡ under n k
    → (m ≡ n) × (l ≡ k)
same_master x m l n k p q =
    let h : ◌≡◌ {A = Master} (record { creator = m; level = l }) (record { creator = n; level = k }) = cc in
    (ap (λ w. w.creator) h, ap (λ w. w.level) h)

-- a master stays, or was that block
pub freed_cases : (m l : ℕ) (o : Option Master) → (freed m l o ≡ o) ⊎ (o ≡ under m l)
freed_cases m l None = inl refl
freed_cases m l (Some k) = elim (cases_Bool (eqb k.creator m && eqb k.level l)) [
  | inl e ↦ (let h = and_parts (eqb k.creator m) (eqb k.level l) e in inr (λ i. under (eqb-true k.creator m h.0 i) (eqb-true k.level l h.1 i)))
  | inr e ↦ inl (ap (λ (b : Bool). under k.creator (cond b 0 k.level)) e)
]

-- a dependent keeps its creator
pub freed_creator : (m l : ℕ) (o : Option Master) (n j : ℕ) → freed m l o ≡ under n j → (i : ℕ) × (o ≡ under n i)
freed_creator m l None n j e = absurd (cc)
freed_creator m l (Some k) n j e =
    let h = (same_master (freed m l (Some k)) k.creator (cond (eqb k.creator m && eqb k.level l) 0 k.level) n j refl e).0 in
    (k.level, λ i. under (h i) k.level)

-- a dependent of that block is let go to the body
pub freed_own : (m l : ℕ) (o : Option Master) (n j : ℕ) → o ≡ under m l → freed m l o ≡ under n j → j ≡ 0
freed_own m l o n j h e =
    let k : freed m l (under m l) ≡ under n j = subst (λ (x : Option Master). freed m l x ≡ under n j) h e in
    let i = (same_master (freed m l (under m l)) m (cond (eqb m m && eqb l l) 0 l) n j refl k).1 in
    sym i ∙ cond-true (eqb m m && eqb l l) 0 l (and_from (eqb m m) (eqb l l) (eq-eqb m m refl) (eq-eqb l l refl))

-- so that nobody depends on the block any more
pub freed_none : (m l : ℕ) (o : Option Master) → freed m (suc l) o ≡ under m (suc l) → ⊥
freed_none m l o e = elim (freed_cases m (suc l) o) [
  | inl h ↦ (let z = freed_own m (suc l) o m (suc l) (sym h ∙ e) e in omega arith)
  | inr h ↦ (let z = freed_own m (suc l) o m (suc l) h e in omega arith)
]

module _ (p : Picture) (m l : ℕ) (over : Over p m l) where
  pub free_on : (d n j : ℕ) → Depends p d n j → (status p d ≡ Terminated) ⊎ Depends (let_go p m l) d n j
  free_on d n j (b, e) = elim (freed_cases m l (p.task d).master) [ inl h ↦ inr (b, h ∙ e) | inr h ↦ inl (over d (b, h)) ]

  pub free_back : (d n j : ℕ) → Depends (let_go p m l) d n j → (status p d ≡ Terminated) ⊎ Depends p d n j
  free_back d n j (b, e) = elim (freed_cases m l (p.task d).master) [ inl h ↦ inr (b, sym h ∙ e) | inr h ↦ inl (over d (b, h)) ]

  pub over_back : (n j : ℕ) → Over (let_go p m l) n j → Over p n j
  over_back n j h d k = elim (free_on d n j k) [ inl e ↦ e | inr k ↦ h d k ]

  pub over_on : (n j : ℕ) → Over p n j → Over (let_go p m l) n j
  over_on n j h d k = elim (free_back d n j k) [ inl e ↦ e | inr k ↦ h d k ]
