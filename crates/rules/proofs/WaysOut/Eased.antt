-- A move eases a picture: tasks wake, frames close, a task finishes. A set that is shut after it was shut before it.
use Rattle.std.proofs.Common.{◌≡◌, ℕ, suc, ◌<◌, Bool, true, false, not, ◌&&◌, T, eqb, ◌≢◌, ◌⊎◌, List, [], ◌∷◌, length, sym, refl, ap, ◌∙◌, subst, inl, inr, eqb→eq}
use lib.Dec.{not_T}
use Rattle.std.proofs.lemmas.Bool.{cond-false, ne_eqb}
use Rattle.rules.specs.Book.{AnyLevel, CanEndWith, CanRunWith, DependentsEnd, InsideRendezvous, outside, Points, Shut}
use Rattle.rules.specs.Picture.{Depends, frames, Picture, rendezvous_level, status}
use Rattle.rules.specs.declared.vocabulary.Frame.{Frame}
use Rattle.rules.specs.declared.vocabulary.Frame.TheVariants.{Block, Rendezvous}
use Rattle.rules.specs.declared.vocabulary.Status.{Status}
use Rattle.rules.specs.declared.vocabulary.Status.TheVariants.{Accepting, Completed, Engaged, Leaving, NotBegun, Queued, Running, Terminated}
use Rattle.rules.proofs.Basics.Frames.{Stands}
use Rattle.rules.proofs.Basics.Statuses.{apart, kind, running}
use Rattle.rules.proofs.Invariant.Sound.{begun_as, engaged, Sound}

-- what may become of a status
abbrev pub Turned : Status → Status → Type 0
Turned NotBegun r = r ≡ NotBegun
Turned Running r = (r ≡ Running) ⊎ ((r ≡ Completed) ⊎ (r ≡ Terminated))
Turned (Queued a e) r = (r ≡ Running) ⊎ (r ≡ Queued a e)
Turned (Engaged a) r = (r ≡ Running) ⊎ (r ≡ Engaged a)
Turned (Accepting m) r = (r ≡ Running) ⊎ (r ≡ Accepting m)
Turned Leaving r = (r ≡ Running) ⊎ (r ≡ Leaving)
Turned Completed r = (r ≡ Completed) ⊎ (r ≡ Terminated)
Turned Terminated r = r ≡ Terminated

pub turned_kept : (s : Status) → Turned s s
turned_kept NotBegun = refl
turned_kept Running = inl refl
turned_kept (Queued a e) = inr refl
turned_kept (Engaged a) = inr refl
turned_kept (Accepting m) = inr refl
turned_kept Leaving = inr refl
turned_kept Completed = inl refl
turned_kept Terminated = refl

-- what may become of the frames
abbrev pub Popped : Picture → Picture → ℕ → Type 0
Popped p q x = (frames q x ≡ frames p x)
    ⊎ ((status q x ≡ Running) × ((frames p x ≡ Block ∷ frames q x)
    ⊎ ((c : ℕ) × (e : ℕ) × (frames p x ≡ Rendezvous c e ∷ frames q x) × (status q c ≡ Running))))

-- d has finished
pub record Gone (p q : Picture) (d : ℕ) : Type 0 where
  pub bare : frames p d ≡ []
  pub deserted : (x e : ℕ) → status q x ≡ Queued d e → ⊥
  pub awake : (x mask : ℕ) → status p x ≡ Accepting mask → ⊥

pub record Eased (p q : Picture) : Type 0 where
  pub begun : q.begun ≡ p.begun
  pub master : (x : ℕ) → x < p.begun → ((q.task x).master ≡ (p.task x).master) ⊎ (status q x ≡ Terminated)
  pub turned : (x : ℕ) → Turned (status p x) (status q x)
  pub popped : (x : ℕ) → Popped p q x
  pub gone : (d : ℕ) → status p d ≡ Running → (status q d ≡ Running) ⊎ Gone p q d

abbrev pub rest : Picture → Points → Points
rest p u = record { runs = λ x. u.runs x && not (eqb (kind (status p x)) (kind Running)); ends = u.ends }

out_rest : (a b : Bool) → T (not (a && not b)) → T (not a) ⊎ T b
out_rest true true t = inr tt
out_rest true false t = inl t
out_rest false b t = inl tt

pub both : (a b : Bool) → T (a && b) → T a × T b
both true b t = (tt, t)
both false b t = absurd t

module _ (p q : Picture) (snd : Sound p) (eased : Eased p q) (u : Points) (shut : Shut q u) where
  run_out : (r : ℕ) → T ((outside (rest p u)).runs r) → T ((outside u).runs r) ⊎ (status p r ≡ Running)
  run_out r t = go (out_rest (u.runs r) (eqb (kind (status p r)) (kind Running)) t)
    where
      go : T (not (u.runs r)) ⊎ T (eqb (kind (status p r)) (kind Running)) → T ((outside u).runs r) ⊎ (status p r ≡ Running)
      go (inl h) = inl h
      go (inr h) = inr (running (status p r) (eqb→eq (kind (status p r)) (kind Running) h))

  below : (r : ℕ) → r < p.begun → r < q.begun
  below r h = subst (λ (n : ℕ). r < n) (sym eased.begun) h

  run_as : (t : ℕ) (s : Status) → status q t ≡ s → t < p.begun → T (u.runs t) → CanRunWith q (outside u) t s → ⊥
  run_as t s e h m f = shut.runs t m (below t h, subst (λ (r : Status). CanRunWith q (outside u) t r) (sym e) f)

  end_as : (t : ℕ) (s : Status) → status q t ≡ s → t < p.begun → T (u.ends t) → CanEndWith q (outside u) t s → ⊥
  end_as t s e h m f = shut.ends t m (below t h, subst (λ (r : Status). CanEndWith q (outside u) t r) (sym e) f)

  running_out : (r : ℕ) → r < p.begun → status q r ≡ Running → T ((outside u).runs r)
  running_out r h e = not_T (u.runs r) (λ m. run_as r Running e h m tt)

  ran : (r : ℕ) → status p r ≡ Running → r < p.begun
  ran r e = begun_as snd r e tt

  -- r can run, outside u, unless it is the one that has finished
  out_of : (r : ℕ) → T ((outside (rest p u)).runs r) → T ((outside u).runs r) ⊎ Gone p q r
  out_of r t = go (run_out r t)
    where
      more : status p r ≡ Running → (status q r ≡ Running) ⊎ Gone p q r → T ((outside u).runs r) ⊎ Gone p q r
      more e (inl f) = inl (running_out r (ran r e) f)
      more e (inr g) = inr g

      go : T ((outside u).runs r) ⊎ (status p r ≡ Running) → T ((outside u).runs r) ⊎ Gone p q r
      go (inl h) = inl h
      go (inr e) = more e (eased.gone r e)

  -- a dependent after was one before, or is Terminated
  carried : (d m l : ℕ) → (Depends p d m l → T ((outside u).ends d)) → Depends q d m l → T ((outside u).ends d)
  carried d m l f h = go (subst (λ (n : ℕ). d < n) eased.begun h.0)
    where
      go : d < p.begun → T ((outside u).ends d)
      go b = elim (eased.master d b) [ inl e ↦ f (b, sym e ∙ h.1) | inr e ↦ not_T (u.ends d) (λ m. end_as d Terminated e b m tt) ]

  same_rendezvous : (x r : ℕ) → status q x ≡ Engaged r → Popped p q r → rendezvous_level x (frames p r) ≡ rendezvous_level x (frames q r)
  same_rendezvous x r e (inl f) = sym (ap (rendezvous_level x) f)
  same_rendezvous x r e (inr (s, inl f)) = ap (rendezvous_level x) f
  same_rendezvous x r e (inr (s, inr (c, k, f, g))) = ap (rendezvous_level x) f ∙ cond-false (eqb c x) (suc (length (frames q r))) (rendezvous_level x (frames q r)) (ne_eqb c x (λ z. apart (sym g ∙ (ap (status q) z ∙ e)) tt))

  no_run : (t : ℕ) (s : Status) → status p t ≡ s → t < p.begun → T (u.runs t) → T (not (eqb (kind s) (kind Running))) → Turned s (status q t) → CanRunWith p (outside (rest p u)) t s → ⊥
  no_run t NotBegun e b m n turn h = h
  no_run t Running e b m n turn h = n
  no_run t (Queued r k) e b m n (inl f) h = run_as t Running f b m tt
  no_run t (Queued r k) e b m n (inr f) h = go (out_of r h)
    where
      go : T ((outside u).runs r) ⊎ Gone p q r → ⊥
      go (inl o) = run_as t (Queued r k) f b m o
      go (inr g) = g.deserted t k f
  no_run t (Engaged r) e b m n (inl f) h = run_as t Running f b m tt
  no_run t (Engaged r) e b m n (inr f) h = go (out_of r h.0)
    where
      deps : DependentsEnd q (outside u) r (InsideRendezvous q r t)
      deps d l above dep = carried d r l (h.1 d l (subst (λ (k : ℕ). k < l) (sym (same_rendezvous t r f (eased.popped r))) above)) dep

      stood : frames p r ≡ [] → (l : ℕ) × (k : ℕ) × Stands (frames p r) l (Rendezvous t k) → ⊥
      stood g (l, k, st) = subst (λ (fs : List Frame). Stands fs l (Rendezvous t k)) g st

      go : T ((outside u).runs r) ⊎ Gone p q r → ⊥
      go (inl o) = run_as t (Engaged r) f b m (o, deps)
      go (inr g) = stood g.bare (engaged snd t r e).1
  no_run t (Accepting mask) e b m n (inl f) h = run_as t Running f b m tt
  no_run t (Accepting mask) e b m n (inr f) (v, few, ne, o) = go (out_of v o)
    where
      go : T ((outside u).runs v) ⊎ Gone p q v → ⊥
      go (inl w) = run_as t (Accepting mask) f b m (v, few, ne, w)
      go (inr g) = g.awake t mask e
  no_run t Leaving e b m n (inl f) h = run_as t Running f b m tt
  no_run t Leaving e b m n (inr f) h = go (eased.popped t)
    where
      go : Popped p q t → ⊥
      go (inl g) = run_as t Leaving f b m (λ d l at dep. carried d t l (h d l (at ∙ ap length g)) dep)
      go (inr (g, _)) = apart (sym g ∙ f) tt
  no_run t Completed e b m n turn h = h
  no_run t Terminated e b m n turn h = h

  deps_all : (t : ℕ) → DependentsEnd p (outside (rest p u)) t AnyLevel → DependentsEnd q (outside u) t AnyLevel
  deps_all t h d l _ dep = carried d t l (h d l tt) dep

  -- t does not run in p, so that its point is not outside rest by that
  not_run : (t : ℕ) (s : Status) → status p t ≡ s → T (not (eqb (kind s) (kind Running))) → T ((outside (rest p u)).runs t) → T ((outside u).runs t)
  not_run t s e n o = go (run_out t o)
    where
      go : T ((outside u).runs t) ⊎ (status p t ≡ Running) → T ((outside u).runs t)
      go (inl h) = h
      go (inr h) = absurd (apart (sym e ∙ h) n)

  waits : (t : ℕ) (s : Status) → status p t ≡ s → T (not (eqb (kind s) (kind Running))) → T ((outside (rest p u)).runs t) × DependentsEnd p (outside (rest p u)) t AnyLevel → T ((outside u).runs t) × DependentsEnd q (outside u) t AnyLevel
  waits t s e n h = (not_run t s e n h.0, deps_all t h.1)

  no_end : (t : ℕ) (s : Status) → status p t ≡ s → t < p.begun → T (u.ends t) → Turned s (status q t) → CanEndWith p (outside (rest p u)) t s → ⊥
  no_end t NotBegun e b m turn h = h
  no_end t Running e b m (inl f) h = end_as t Running f b m (running_out t b f, deps_all t h.1)
  no_end t Running e b m (inr (inl f)) h = end_as t Completed f b m (deps_all t h.1)
  no_end t Running e b m (inr (inr f)) h = end_as t Terminated f b m tt
  no_end t (Queued r k) e b m (inl f) h = end_as t Running f b m (waits t (Queued r k) e tt h)
  no_end t (Queued r k) e b m (inr f) h = end_as t (Queued r k) f b m (waits t (Queued r k) e tt h)
  no_end t (Engaged r) e b m (inl f) h = end_as t Running f b m (waits t (Engaged r) e tt h)
  no_end t (Engaged r) e b m (inr f) h = end_as t (Engaged r) f b m (waits t (Engaged r) e tt h)
  no_end t (Accepting k) e b m (inl f) h = end_as t Running f b m (waits t (Accepting k) e tt h)
  no_end t (Accepting k) e b m (inr f) h = end_as t (Accepting k) f b m (waits t (Accepting k) e tt h)
  no_end t Leaving e b m (inl f) h = end_as t Running f b m (waits t Leaving e tt h)
  no_end t Leaving e b m (inr f) h = end_as t Leaving f b m (waits t Leaving e tt h)
  no_end t Completed e b m (inl f) h = end_as t Completed f b m (deps_all t h)
  no_end t Completed e b m (inr f) h = end_as t Terminated f b m tt
  no_end t Terminated e b m f h = end_as t Terminated f b m tt

  pub rest_shut : Shut p (rest p u)
  rest_shut = record {
    runs = λ t m h. let k = both (u.runs t) (not (eqb (kind (status p t)) (kind Running))) m in no_run t (status p t) refl h.0 k.0 k.1 (eased.turned t) h.1;
    ends = λ t m h. no_end t (status p t) refl h.0 m (eased.turned t) h.1;
  }

-- no shut set holds both points of t
abbrev pub Alive : Picture → ℕ → Type 0
Alive p t = (u : Points) → Shut p u → T (u.runs t) → T (u.ends t) → ⊥

and_T : (a b : Bool) → T a → T b → T (a && b)
and_T true b x y = y
and_T false b x y = x

pub alive_eased : (p q : Picture) → Sound p → Eased p q → (t : ℕ) → status p t ≢ Running → Alive p t → Alive q t
alive_eased p q snd eased t n alive u shut r e = alive (rest p u) (rest_shut p q snd eased u shut)
    (and_T (u.runs t) (not (eqb (kind (status p t)) (kind Running))) r (not_T (eqb (kind (status p t)) (kind Running)) (λ k. n (running (status p t) (eqb→eq (kind (status p t)) (kind Running) k))))) e
