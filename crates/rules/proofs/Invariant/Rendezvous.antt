-- The invariant is kept when a rendezvous begins or ends: two tasks change.
use Rattle.std.proofs.Common.{◌≡◌, ℕ, suc, ◌<◌, ◌≤◌, ◌≢◌, List, ◌∷◌, length, Contains, sym, refl, ap, ◌∙◌, subst, inl, inr, arith}
use native.Mathlib.Decide.{ℕ_discrete}
use Rattle.rules.specs.Changes.{engage, leave_queue, part, with_frames, with_status}
use Rattle.rules.specs.Limits.{frame_room}
use Rattle.rules.specs.Picture.{at, frames, Picture, status, Task, without}
use Rattle.rules.specs.Rules.{Acts, Takes}
use Rattle.rules.specs.declared.vocabulary.Frame.{Frame}
use Rattle.rules.specs.declared.vocabulary.Frame.TheVariants.{Block, Rendezvous}
use Rattle.rules.specs.declared.vocabulary.Status.TheVariants.{Accepting, Engaged, Queued, Running, Terminated}
use Rattle.rules.proofs.Basics.Frames.{Stands, stands_block, stands_low}
use Rattle.rules.proofs.Basics.Queues.{Contains-from_without, Contains-without, taken}
use Rattle.rules.proofs.Basics.Tasks.{at_each, at_other, at_same}
use Rattle.rules.proofs.Invariant.Change.{Changed, Move, moves, next}
use Rattle.rules.proofs.Invariant.Good.{no_excuse, stat_is}
use Rattle.rules.proofs.Invariant.Sound.{Sound}

abbrev pub bystander : ℕ → ℕ → ℕ → Type 0
bystander i j t = (i ≢ t) × (j ≢ t)

-- task i becomes v, and then task j becomes w
module _ (p : Picture) (i j : ℕ) (v w : Task) (xs : List ℕ) where
  abbrev f : ℕ → Task
  f = at (at p.task i v) j w

  pub two_each : (P : ℕ → Task → Type 0) → P i v → P j w → ((t : ℕ) → bystander i j t → P t (p.task t)) → (t : ℕ) → P t (f t)
  two_each P x y z = at_each P (at p.task i v) j w y
      (λ t n. at_each (λ t u. j ≢ t → P t u) p.task i v (λ _. x) (λ t m n. z t (m, n)) t n)

  pub two_move : Changed p (next p f xs) (bystander i j) no_excuse i v → Changed p (next p f xs) (bystander i j) no_excuse j w
      → ((t : ℕ) → bystander i j t → Contains p.arrivals t → Contains xs t)
      → ((t : ℕ) → Contains xs t → (s : ℕ) × (e : ℕ) × ((f t).status ≡ Queued s e))
      → Move p f xs (bystander i j) no_excuse no_excuse
  two_move c d m r = record {
    kept = λ t k. at_other (at p.task i v) j w t k.1 ∙ at_other p.task i v t k.0;
    each = λ t. elim (ℕ_discrete j t) [
      | yes e ↦ inr (w, subst (λ k. Changed p (next p f xs) (bystander i j) no_excuse k w) e d)
      | no n ↦ elim (ℕ_discrete i t) [
        | yes e ↦ inr (v, subst (λ k. Changed p (next p f xs) (bystander i j) no_excuse k v) e c)
        | no k ↦ inl (k, n)
      ]
    ];
    member = m;
    arrived = r;
    excused = λ t l _ x. x;
  }

-- c calls entry e of a: c is Engaged, a Running with one more frame
module _ (p : Picture) (g : Sound p) (c a e : ℕ) (xs : List ℕ)
    (b : c < p.begun) (n₁ : (s : ℕ) → status p c ≢ Engaged s) (n₂ : status p c ≢ Terminated)
    (d : a < p.begun) (k₁ : (s : ℕ) → status p a ≢ Engaged s) (k₂ : status p a ≢ Terminated)
    (apart : c ≢ a) (room : length (frames p a) < frame_room)
    (on : (t : ℕ) → bystander c a t → Contains p.arrivals t → Contains xs t)
    (back : (t : ℕ) → Contains xs t → Contains p.arrivals t × bystander c a t) where
  abbrev v : Task
  v = with_status (p.task c) (Engaged a)

  abbrev w : Task
  w = with_frames (with_status (at p.task c v a) Running) (Rendezvous c e ∷ frames p a)

  abbrev q : Picture
  q = next p (at (at p.task c v) a w) xs

  v_is : q.task c ≡ v
  v_is = at_other (at p.task c v) a w c (λ z. apart (sym z)) ∙ at_same p.task c v

  w_is : q.task a ≡ w
  w_is = at_same (at p.task c v) a w

  old : at p.task c v a ≡ p.task a
  old = at_other p.task c v a apart

  keeps : (s t : ℕ) → status p t ≡ Engaged s → status q t ≡ Engaged s
  keeps s = two_each p c a v w xs (λ t u. status p t ≡ Engaged s → u.status ≡ Engaged s) (λ z. absurd (n₁ s z)) (λ z. absurd (k₁ s z)) (λ _ _ z. z)

  rendezvous_framed : (l t f : ℕ) → Stands (Rendezvous c e ∷ frames p a) l (Rendezvous t f) → status q t ≡ Engaged a
  rendezvous_framed l t f (inl (_, z)) = let h : c ≡ t = cc in subst (λ x. status q x ≡ Engaged a) h (ap (λ u. u.status) v_is)
  rendezvous_framed l t f (inr s) = keeps a t ((g.framed a).framed l t f s)

  rendezvous_once : (l k t f h : ℕ) → Stands (Rendezvous c e ∷ frames p a) l (Rendezvous t f) → Stands (Rendezvous c e ∷ frames p a) k (Rendezvous t h) → l ≡ k
  rendezvous_once l k t f h (inl (x, _)) (inl (y, _)) = x ∙ sym y
  rendezvous_once l k t f h (inl (x, z)) (inr s) = let y : t ≡ c = cc in absurd (n₁ a (subst (λ x. status p x ≡ Engaged a) y ((g.framed a).framed k t h s)))
  rendezvous_once l k t f h (inr s) (inl (x, z)) = let y : t ≡ c = cc in absurd (n₁ a (subst (λ x. status p x ≡ Engaged a) y ((g.framed a).framed l t f s)))
  rendezvous_once l k t f h (inr s) (inr r) = (g.framed a).once l k t f h s r

  pub good_rendezvous : Sound q
  good_rendezvous = moves p (at (at p.task c v) a w) xs (bystander c a) no_excuse no_excuse g
      (two_move p c a v w xs
      (record {
        is = v_is;
        master = refl;
        entries = refl;
        stat = (b, (d, (suc (length (frames p a)), e, subst (λ u. Stands u.frames (suc (length (frames p a))) (Rendezvous c e)) (sym w_is) (inl (refl, refl)))));
        frames = inl refl;
        hosts = λ l c e _ s. s;
        opened = λ l s. inr s;
        serves = λ _ _ _ _ _. ((λ y. cc), (λ y. cc));
        engages = λ s l f y _. absurd (n₁ s y);
        was = n₂;
        ended = λ y. absurd (cc);
      })
      (record {
        is = w_is;
        master = ap (λ u. u.master) old;
        entries = ap (λ u. u.entries) old;
        stat = d;
        frames = inr (record {
          framed = rendezvous_framed;
          once = rendezvous_once;
          shallow = omega arith;
          blocks = λ l s. (g.framed a).blocks l (stands_block (frames p a) l c e s);
        });
        hosts = λ l c e _ s. inr s;
        opened = λ l s. inr (inr s);
        serves = λ _ _ _ _ _. ((λ y. cc), (λ y. cc));
        engages = λ s l f y _. absurd (k₁ s y);
        was = k₂;
        ended = λ y. absurd (cc);
      })
      on
      (λ t m. let h = back t m in
      subst (λ u. (s : ℕ) × (e : ℕ) × (u.status ≡ Queued s e))
      (sym (at_other (at p.task c v) a w t h.1.1 ∙ at_other p.task c v t h.1.0)) (g.arrived t h.0)))

pub good_meets : (p : Picture) → Sound p → (a s e mask : ℕ) → Acts p a → s < p.begun → status p s ≡ Accepting mask
    → Sound (engage p a s e)
good_meets p g a s e mask (b, z) d y = good_rendezvous p g a s e p.arrivals b (λ r x. cc) (λ x. cc) d (λ r x. cc) (λ x. cc)
    (λ x. let h = ap (status p) x in cc) (stat_is g s (Accepting mask) y).1.1
    (λ t _ m. m)
    (λ t m. let (r, f, h) = g.arrived t m in (m, ((λ x. let k = ap (status p) x in cc), (λ x. let k = ap (status p) x in cc))))

pub good_takes : (p : Picture) → Sound p → (a mask c e : ℕ) → Acts p a → length (frames p a) < frame_room → Takes p a mask c e
    → Sound (engage (leave_queue p c) c a e)
good_takes p g a mask c e (d, z) n k =
    let y = taken p a mask c e k in
    good_rendezvous p g c a e (without c p.arrivals) (stat_is g c (Queued a e) y).0 (λ r x. cc) (λ x. cc) d (λ r x. cc) (λ x. cc)
    (λ x. let h = ap (status p) x in cc) n
    (λ t h m. Contains-without p.arrivals c t h.0 m)
    (λ t m. let h = Contains-from_without p.arrivals c t m in let (r, f, i) = g.arrived t h.0 in
    (h.0, (h.1, (λ x. let j = ap (status p) x in cc))))

-- a ends its innermost rendezvous, with c
module _ (p : Picture) (g : Sound p) (a c e : ℕ) (fs : List Frame) (r : Acts p a) (i : frames p a ≡ Rendezvous c e ∷ fs) where
  abbrev w₂ : Task
  w₂ = with_frames (with_status (p.task a) Running) fs

  abbrev v₂ : Task
  v₂ = with_status (at p.task a w₂ c) Running

  abbrev q₂ : Picture
  q₂ = next p (at (at p.task a w₂) c v₂) p.arrivals

  inside : (l : ℕ) (h : Frame) → Stands fs l h → Stands (frames p a) l h
  inside l h s = rw i (inr s)

  top : Stands (frames p a) (suc (length fs)) (Rendezvous c e)
  top = rw i (inl (refl, refl))

  caller : status p c ≡ Engaged a
  caller = (g.framed a).framed (suc (length fs)) c e top

  apart₂ : a ≢ c
  apart₂ x = let h = ap (status p) x in let y = caller in let z = r.1 in cc

  old₂ : at p.task a w₂ c ≡ p.task c
  old₂ = at_other p.task a w₂ c apart₂

  w₂_is : q₂.task a ≡ w₂
  w₂_is = at_other (at p.task a w₂) c v₂ a (λ z. apart₂ (sym z)) ∙ at_same p.task a w₂

  v₂_is : q₂.task c ≡ v₂
  v₂_is = at_same (at p.task a w₂) c v₂

  -- no other frame has the caller c
  only : (l f : ℕ) → Stands fs l (Rendezvous c f) → ⊥
  only l f s = let h = (g.framed a).once l (suc (length fs)) c f e (inside l (Rendezvous c f) s) top in let k = stands_low fs l (Rendezvous c f) s in omega arith

  parted_framed : (l t f : ℕ) → Stands fs l (Rendezvous t f) → status q₂ t ≡ Engaged a
  parted_framed l t f s = two_each p a c w₂ v₂ p.arrivals (λ t u. status p t ≡ Engaged a → Stands fs l (Rendezvous t f) → u.status ≡ Engaged a)
      (λ x _. let z = r.1 in absurd (cc)) (λ _ x. absurd (only l f x)) (λ _ _ z _. z) t
      ((g.framed a).framed l t f (inside l (Rendezvous t f) s)) s

  parted_hosts : (l t f : ℕ) → c ≢ t → Stands (Rendezvous c e ∷ fs) l (Rendezvous t f) → Stands fs l (Rendezvous t f)
  parted_hosts l t f n (inl (_, x)) = absurd (n (cc))
  parted_hosts l t f n (inr s) = s

  parted_engages : (s l f : ℕ) → status p c ≡ Engaged s → Stands (q₂.task s).frames l (Rendezvous c f) → ⊥
  parted_engages s l f y h = let z = caller in let k : s ≡ a = cc in
      only l f (subst (λ u. Stands u.frames l (Rendezvous c f)) w₂_is (subst (λ x. Stands (q₂.task x).frames l (Rendezvous c f)) k h))

  pub good_ends_rendezvous : Sound (part p a c fs)
  good_ends_rendezvous = moves p (at (at p.task a w₂) c v₂) p.arrivals (bystander a c) no_excuse no_excuse g
      (two_move p a c w₂ v₂ p.arrivals
      (record {
        is = w₂_is;
        master = refl;
        entries = refl;
        stat = r.0;
        frames = inr (record {
          framed = parted_framed;
          once = λ l k t f h s u. (g.framed a).once l k t f h (inside l (Rendezvous t f) s) (inside k (Rendezvous t h) u);
          shallow = let h : length (Rendezvous c e ∷ fs) ≤ frame_room = rw i at (g.framed a).shallow in omega arith;
          blocks = λ l s. (g.framed a).blocks l (inside l Block s);
        });
        hosts = λ l t f k s. parted_hosts l t f k.1 (rw i at s);
        opened = λ l s. inr (stands_block fs l c e (rw i at s));
        serves = λ _ _ _ _ _. ((λ y. cc), (λ y. cc));
        engages = λ s l f y _. let z = r.1 in absurd (cc);
        was = λ y. let z = r.1 in cc;
        ended = λ y. absurd (cc);
      })
      (record {
        is = v₂_is;
        master = ap (λ u. u.master) old₂;
        entries = ap (λ u. u.entries) old₂;
        stat = (stat_is g c (Engaged a) caller).0;
        frames = inl (ap (λ u. u.frames) old₂);
        hosts = λ l t f _ s. subst (λ u. Stands u.frames l (Rendezvous t f)) (sym old₂) s;
        opened = λ l s. inr (subst (λ u. Stands u.frames l Block) (sym old₂) s);
        serves = λ _ _ _ _ _. ((λ y. cc), (λ y. cc));
        engages = λ s l f y h. absurd (parted_engages s l f y h);
        was = λ y. let z = caller in cc;
        ended = λ y. absurd (cc);
      })
      (λ t _ m. m)
      (λ t m. let (s, f, h) = g.arrived t m in (
        s,
        f,
        two_each p a c w₂ v₂ p.arrivals (λ t u. status p t ≡ Queued s f → u.status ≡ Queued s f)
            (λ x. let z = r.1 in absurd (cc)) (λ x. let z = caller in absurd (cc)) (λ _ _ z. z) t h,
      )))
