-- The table of event letters: a letter tells its kind, and kind and numbers tell the event.
use Rattle.std.proofs.Common.{◌≡◌, ℕ, ◌≤◌, cond, eqb, List, ◌∷◌, length, get_or, sym, refl, ap, ◌∙◌, arith}
use Rattle.rules.specs.declared.vocabulary.Action.{Action}
use Rattle.rules.specs.declared.vocabulary.Action.TheVariants.{Begin, OpenBlock, LeaveBlock, Call, Accept, EndRendezvous, Finish}
use Rattle.rules.specs.declared.vocabulary.Event.{Event}
use Rattle.lines.specs.declared.events.Kind.{Kind}
use Rattle.lines.specs.declared.events.Kind.TheVariants.{Begin as begin, OpenBlock as open_block, LeaveBlock as leave_block, Call as call, Accept as accept, EndRendezvous as end_rendezvous, Finish as finish}
use Rattle.lines.specs.Events.{letter, arity, kind, operands, numbers}

-- the kind at a letter
kind_at : ℕ → Kind
kind_at l = cond (eqb l 78) begin (cond (eqb l 66) open_block (cond (eqb l 76) leave_block (cond (eqb l 67) call (cond (eqb l 65) accept (cond (eqb l 69) end_rendezvous finish)))))

kind_at_letter : (k : Kind) → kind_at (letter k) ≡ k
unfolding kind_at
kind_at_letter begin = refl
kind_at_letter open_block = refl
kind_at_letter leave_block = refl
kind_at_letter call = refl
kind_at_letter accept = refl
kind_at_letter end_rendezvous = refl
kind_at_letter finish = refl

pub kind_from_letter : (k j : Kind) → letter k ≡ letter j → k ≡ j
kind_from_letter k j e = sym (kind_at_letter k) ∙ ap kind_at e ∙ kind_at_letter j

pub no_comma : (k : Kind) → 44 ≡ letter k → ⊥
no_comma begin e = omega arith
no_comma open_block e = omega arith
no_comma leave_block e = omega arith
no_comma call e = omega arith
no_comma accept e = omega arith
no_comma end_rendezvous e = omega arith
no_comma finish e = omega arith

-- the action of a kind with these operands
action : Kind → List ℕ → Action
action begin ns = Begin (get_or ns 0 0) (get_or ns 1 0)
action open_block ns = OpenBlock
action leave_block ns = LeaveBlock
action call ns = Call (get_or ns 0 0) (get_or ns 1 0)
action accept ns = Accept (get_or ns 0 0)
action end_rendezvous ns = EndRendezvous
action finish ns = Finish

action_back : (x : Action) → action (kind x) (operands x) ≡ x
unfolding action
action_back (Begin child entries) = refl
action_back OpenBlock = refl
action_back LeaveBlock = refl
action_back (Call server entry) = refl
action_back (Accept mask) = refl
action_back EndRendezvous = refl
action_back Finish = refl

pub event_told : (v w : Event) → kind v.action ≡ kind w.action → numbers v ≡ numbers w → v ≡ w
event_told v w k n =
    let actors : v.actor ≡ w.actor = ap (λ l. get_or l 0 0) n in
    let rest : operands v.action ≡ operands w.action = cc in
    let actions : v.action ≡ w.action =
    sym (action_back v.action) ∙ ap (λ x. action x (operands v.action)) k ∙ ap (action (kind w.action)) rest ∙ action_back w.action in
    ap (λ (a : ℕ). record { actor = a; action = v.action }) actors ∙ ap (λ (x : Action). record { actor = w.actor; action = x }) actions

-- as many numbers as the table says
pub length_numbers : (v : Event) → length (numbers v) ≡ arity (kind v.action)
length_numbers v = of_action v.action
  where
    of_action : (x : Action) → length (v.actor ∷ operands x) ≡ arity (kind x)
    of_action (Begin child entries) = refl
    of_action OpenBlock = refl
    of_action LeaveBlock = refl
    of_action (Call server entry) = refl
    of_action (Accept mask) = refl
    of_action EndRendezvous = refl
    of_action Finish = refl

pub arity_most : (k : Kind) → arity k ≤ 3
arity_most begin = omega arith
arity_most open_block = omega arith
arity_most leave_block = omega arith
arity_most call = omega arith
arity_most accept = omega arith
arity_most end_rendezvous = omega arith
arity_most finish = omega arith
