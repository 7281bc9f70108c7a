-- One lemma for all events but a begin: if every task is as it was, or has changed in an orderly way, then what was good is good.
use Rattle.std.proofs.Common.{◌≡◌, ℕ, suc, ◌<◌, ◌≤◌, ◌≢◌, ◌⊎◌, List, length, Contains, sym, refl, ap, ◌∙◌, subst, inl, inr}
use Rattle.rules.specs.Limits.{most_entries}
use Rattle.rules.specs.Picture.{AllOver, Depends, frames, Over, Picture, status, Task, under}
use Rattle.rules.specs.declared.vocabulary.Frame.{Frame}
use Rattle.rules.specs.declared.vocabulary.Frame.TheVariants.{Block, Rendezvous}
use Rattle.rules.specs.declared.vocabulary.Status.{Status}
use Rattle.rules.specs.declared.vocabulary.Status.TheVariants.{Accepting, Completed, Engaged, Leaving, NotBegun, Queued, Running, Terminated}
use Rattle.rules.proofs.Basics.Frames.{Stands}
use Rattle.rules.proofs.Invariant.Good.{Excuse, Framed, Good, Hosted, Stat, StatOf, Waiting}

-- what a task that stays as it is asks of the change around it
pub record Env (p q : Picture) (X Y : Excuse) (t : ℕ) : Type 0 where
  pub is_in : t < p.begun → t < q.begun
  pub is_out : status p t ≡ NotBegun → p.begun ≤ t → q.begun ≤ t
  pub waiting : (s e : ℕ) → status p t ≡ Queued s e → Waiting p t s e → Waiting q t s e
  pub hosted : (s : ℕ) → status p t ≡ Engaged s → Hosted p t s → Hosted q t s
  pub back : (l : ℕ) → (Y t l → ⊥) → Over q t l → (X t l → ⊥) × Over p t l
  pub on : status p t ≡ Terminated → AllOver p t → AllOver q t

pub stat_keep : (p q : Picture) (X Y : Excuse) (t : ℕ) (fs : List Frame) (n : ℕ) → Env p q X Y t
    → (S : Status) → status p t ≡ S → Stat p X t fs n S → Stat q Y t fs n S
stat_keep p q X Y t fs n v NotBegun z h = (v.is_out z h.0, h.1)
stat_keep p q X Y t fs n v Running z h = v.is_in h
stat_keep p q X Y t fs n v (Queued s e) z h = (v.is_in h.0, v.waiting s e z h.1)
stat_keep p q X Y t fs n v (Engaged s) z h = (v.is_in h.0, v.hosted s z h.1)
stat_keep p q X Y t fs n v (Accepting mask) z h = (v.is_in h.0, h.1)
stat_keep p q X Y t fs n v Leaving z h = (
  v.is_in h.0,
  (
    h.1.0,
    h.1.1,
    λ x o. let k = v.back (suc (length h.1.0)) x o in h.1.2 k.0 k.1,
  ),
)
stat_keep p q X Y t fs n v Completed z h = (
  v.is_in h.0,
  h.1,
  λ x o. h.2 (λ l. (v.back l (x l) (o l)).0) (λ l. (v.back l (x l) (o l)).1),
)
stat_keep p q X Y t fs n v Terminated z h = (v.is_in h.0, h.1, v.on z h.2)

-- the picture with other tasks and arrivals
abbrev pub next : Picture → (ℕ → Task) → List ℕ → Picture
next p f xs = record { begun = p.begun; task = f; arrivals = xs }

-- task t of p becomes u; K: the tasks that stay as they are; Y: the excuses after
pub record Changed (p q : Picture) (K : ℕ → Type 0) (Y : Excuse) (t : ℕ) (u : Task) : Type 0 where
  pub is : q.task t ≡ u
  pub master : u.master ≡ (p.task t).master
  pub entries : u.entries ≡ (p.task t).entries
  pub stat : StatOf q Y t u
  pub frames : (u.frames ≡ (p.task t).frames) ⊎ Framed q t u.frames
  pub hosts : (l c e : ℕ) → K c → Stands (p.task t).frames l (Rendezvous c e) → Stands u.frames l (Rendezvous c e)
  pub opened : (l : ℕ) → Stands (p.task t).frames l Block → ((d : ℕ) → Depends p d t l → ⊥) ⊎ Stands u.frames l Block
  pub serves : (c e : ℕ) → K c → status p c ≡ Queued t e → Waiting p c t e → (u.status ≢ Completed) × (u.status ≢ Terminated)
  pub engages : (s l e : ℕ) → status p t ≡ Engaged s → Stands (q.task s).frames l (Rendezvous t e) → u.status ≡ Engaged s
  pub was : status p t ≢ Terminated
  pub ended : u.status ≡ Terminated → (m l : ℕ) → (p.task t).master ≡ under m l → Y m l

pub record Move (p : Picture) (f : ℕ → Task) (xs : List ℕ) (K : ℕ → Type 0) (X Y : Excuse) : Type 0 where
  pub kept : (t : ℕ) → K t → f t ≡ p.task t
  pub each : (t : ℕ) → K t ⊎ ((u : Task) × Changed p (next p f xs) K Y t u)
  pub member : (t : ℕ) → K t → Contains p.arrivals t → Contains xs t
  pub arrived : (t : ℕ) → Contains xs t → (s : ℕ) × (e : ℕ) × ((f t).status ≡ Queued s e)
  pub excused : (t l : ℕ) → K t → X t l → Y t l

module _ (p : Picture) (f : ℕ → Task) (xs : List ℕ) (K : ℕ → Type 0) (X Y : Excuse) (g : Good p X) (v : Move p f xs K X Y) where
  abbrev q : Picture
  q = next p f xs

  master_same : (t : ℕ) → (f t).master ≡ (p.task t).master
  master_same t = elim (v.each t) [ inl k ↦ ap (λ u. u.master) (v.kept t k) | inr c ↦ ap (λ u. u.master) c.1.is ∙ c.1.master ]

  entries_same : (t : ℕ) → (f t).entries ≡ (p.task t).entries
  entries_same t = elim (v.each t) [ inl k ↦ ap (λ u. u.entries) (v.kept t k) | inr c ↦ ap (λ u. u.entries) c.1.is ∙ c.1.entries ]

  depends_back : (d m l : ℕ) → Depends q d m l → Depends p d m l
  depends_back d m l h = (h.0, sym (master_same d) ∙ h.1)

  depends_on : (d m l : ℕ) → Depends p d m l → Depends q d m l
  depends_on d m l h = (h.0, master_same d ∙ h.1)

  terminated_on : (d : ℕ) → status p d ≡ Terminated → (f d).status ≡ Terminated
  terminated_on d e = elim (v.each d) [ inl k ↦ ap (λ u. u.status) (v.kept d k) ∙ e | inr c ↦ absurd (c.1.was e) ]

  terminated_back : (d m l : ℕ) → Depends p d m l → (Y m l → ⊥) → (f d).status ≡ Terminated → status p d ≡ Terminated
  terminated_back d m l h n e = elim (v.each d) [
    | inl k ↦ sym (ap (λ u. u.status) (v.kept d k)) ∙ e
    | inr c ↦ absurd (n (c.1.ended (sym (ap (λ u. u.status) c.1.is) ∙ e) m l h.1))
  ]

  over_on : (m l : ℕ) → Over p m l → Over q m l
  over_on m l o d h = terminated_on d (o d (depends_back d m l h))

  over_back : (m l : ℕ) → (Y m l → ⊥) → Over q m l → Over p m l
  over_back m l n o d h = terminated_back d m l h n (o d (depends_on d m l h))

  serves_still : (t s e : ℕ) → K t → status p t ≡ Queued s e → Waiting p t s e → ((f s).status ≢ Completed) × ((f s).status ≢ Terminated)
  serves_still t s e k z w = elim (v.each s) [
    | inl j ↦ (λ x. w.open₁ (sym (ap (λ u. u.status) (v.kept s j)) ∙ x), λ x. w.open₂ (sym (ap (λ u. u.status) (v.kept s j)) ∙ x))
    | inr c ↦ (λ x. (c.1.serves t e k z w).0 (sym (ap (λ u. u.status) c.1.is) ∙ x), λ x. (c.1.serves t e k z w).1 (sym (ap (λ u. u.status) c.1.is) ∙ x))
  ]

  waiting_still : (t s e : ℕ) → K t → status p t ≡ Queued s e → Waiting p t s e → Waiting q t s e
  waiting_still t s e k z w = record {
    begun = w.begun;
    entry = subst (λ n. e < n) (sym (entries_same s)) w.entry;
    open₁ = (serves_still t s e k z w).0;
    open₂ = (serves_still t s e k z w).1;
    arrived = v.member t k w.arrived;
  }

  frames_is : (s : ℕ) (u : Task) → f s ≡ u → (l : ℕ) (g : Frame) → Stands u.frames l g → Stands (f s).frames l g
  frames_is s u e l g h = subst (λ w. Stands w.frames l g) (sym e) h

  hosted_still : (t s : ℕ) → K t → Hosted p t s → Hosted q t s
  hosted_still t s k (b, (l, e, h)) = (
    b,
    (
      l,
      e,
      elim (v.each s) [
        | inl j ↦ frames_is s (p.task s) (v.kept s j) l (Rendezvous t e) h
        | inr c ↦ frames_is s c.0 c.1.is l (Rendezvous t e) (c.1.hosts l t e k h)
      ],
    ),
  )

  env : (t : ℕ) → K t → Env p q X Y t
  env t k = record {
    is_in = λ h. h;
    is_out = λ _ h. h;
    waiting = λ s e z w. waiting_still t s e k z w;
    hosted = λ s z h. hosted_still t s k h;
    back = λ l n o. (λ x. n (v.excused t l k x), over_back t l n o);
    on = λ _ o l. over_on t l (o l);
  }

  stat_next : (t : ℕ) → StatOf q Y t (f t)
  stat_next t = elim (v.each t) [
    | inl k ↦ subst (StatOf q Y t) (sym (v.kept t k)) (stat_keep p q X Y t (frames p t) (p.task t).entries (env t k) (status p t) refl (g.stat t))
    | inr c ↦ subst (StatOf q Y t) (sym c.1.is) c.1.stat
  ]

  framed_same : (s : ℕ) → (f s).frames ≡ frames p s → Framed q s (frames p s)
  framed_same s e = record {
    framed = λ l c n h. elim (v.each c) [
      | inl k ↦ ap (λ u. u.status) (v.kept c k) ∙ (g.framed s).framed l c n h
      | inr w ↦ ap (λ u. u.status) w.1.is ∙ w.1.engages s l n ((g.framed s).framed l c n h) (subst (λ fs. Stands fs l (Rendezvous c n)) (sym e) h)
    ];
    once = (g.framed s).once;
    shallow = (g.framed s).shallow;
    blocks = (g.framed s).blocks;
  }

  framed_from : (s : ℕ) → (f s).frames ≡ frames p s → Framed q s (f s).frames
  framed_from s e = subst (Framed q s) (sym e) (framed_same s e)

  framed_next : (s : ℕ) → Framed q s (f s).frames
  framed_next s = elim (v.each s) [
    | inl k ↦ framed_from s (ap (λ u. u.frames) (v.kept s k))
    | inr c ↦ elim c.1.frames [
      | inl e ↦ framed_from s (ap (λ u. u.frames) c.1.is ∙ e)
      | inr h ↦ subst (λ u. Framed q s u.frames) (sym c.1.is) h
    ]
  ]

  block_still : (d m l : ℕ) → Depends p d m l → Stands (frames p m) l Block → Stands (f m).frames l Block
  block_still d m l h b = elim (v.each m) [
    | inl k ↦ frames_is m (p.task m) (v.kept m k) l Block b
    | inr c ↦ elim (c.1.opened l b) [
      | inl o ↦ absurd (o d h)
      | inr j ↦ frames_is m c.0 c.1.is l Block j
    ]
  ]

  attached_next : (d m l : ℕ) → Depends q d m l → (l ≡ 0) ⊎ Stands (f m).frames l Block
  attached_next d m l h =
      let i = depends_back d m l h in
      elim (g.attached d m l i) [ inl e ↦ inl e | inr b ↦ inr (block_still d m l i b) ]

  pub moves : Good (next p f xs) Y
  moves = record {
    few = g.few;
    stat = stat_next;
    framed = framed_next;
    arrived = v.arrived;
    entries = λ t h. subst (λ n. n ≤ most_entries) (sym (entries_same t)) (g.entries t h);
    elder = λ d m l h. g.elder d m l (depends_back d m l h);
    attached = attached_next;
  }
