-- Event lines: one table of letters and numbers, by which events are written and read.
use Rattle.std.specs.Prelude.{◌≡◌, ℕ, List, [], ◌∷◌, Ok, Result}
use Rattle.std.specs.Result as results
use Rattle.refusals.specs.declared.Refusal.{Refusal}
use Rattle.refusals.specs.declared.Refusal.TheVariants.{UnknownLetter}
use Rattle.refusals.specs.Checks.{FirstRefusal}
use Rattle.rules.specs.declared.vocabulary.Action.{Action}
use Rattle.rules.specs.declared.vocabulary.Action.TheVariants.{Begin, OpenBlock, LeaveBlock, Call, Accept, EndRendezvous, Finish}
use Rattle.rules.specs.declared.vocabulary.Event.{Event}
use Rattle.lines.specs.declared.events.Kind.{Kind}
use Rattle.lines.specs.declared.events.Kind.TheVariants.{Begin as begin, OpenBlock as open_block, LeaveBlock as leave_block, Call as call, Accept as accept, EndRendezvous as end_rendezvous, Finish as finish}
use Rattle.lines.specs.Lines.{spell, Small, line_checks}

-- the letter of each kind of event: N B L C A E F
abbrev pub letter : Kind → ℕ
letter begin = 78
letter open_block = 66
letter leave_block = 76
letter call = 67
letter accept = 65
letter end_rendezvous = 69
letter finish = 70

-- how many numbers follow it, the actor's among them
abbrev pub arity : Kind → ℕ
arity begin = 3
arity open_block = 1
arity leave_block = 1
arity call = 3
arity accept = 2
arity end_rendezvous = 1
arity finish = 1

-- the kind of what a task does
abbrev pub kind : Action → Kind
kind (Begin child entries) = begin
kind OpenBlock = open_block
kind LeaveBlock = leave_block
kind (Call server entry) = call
kind (Accept mask) = accept
kind EndRendezvous = end_rendezvous
kind Finish = finish

-- its numbers, in the order of the line
abbrev pub operands : Action → List ℕ
operands (Begin child entries) = child ∷ entries ∷ []
operands OpenBlock = []
operands LeaveBlock = []
operands (Call server entry) = server ∷ entry ∷ []
operands (Accept mask) = mask ∷ []
operands EndRendezvous = []
operands Finish = []

-- the numbers of an event: the actor, and then those of what it does
abbrev pub numbers : Event → List ℕ
numbers v = v.actor ∷ operands v.action

-- the line of an event
abbrev pub spell_event : Event → List ℕ
spell_event v = spell (letter (kind v.action)) (numbers v)

-- a letter of the table
abbrev pub known : ℕ → Type 0
known l = (k : Kind) × (l ≡ letter k)

-- as many numbers as the table has for the letter
abbrev pub counted : ℕ → ℕ → Type 0
counted l n = (k : Kind) × (l ≡ letter k) × (n ≡ arity k)

-- r is the kind that has the letter l, or else the refusal of an unknown letter, where no kind has it
abbrev pub StandsFor : ℕ → Result Kind Refusal → Type 0
StandsFor l r = results.MatchResult r (λ k. l ≡ letter k) (λ e. (known l → ⊥) × (e ≡ UnknownLetter))

-- what the reader answers: the event that the line spells, with no number over 999, or the first check that refuses the line
abbrev pub ReadsEvent : List ℕ → Result Event Refusal → Type 0
ReadsEvent line r = results.MatchResult r (λ v. (line ≡ spell_event v) × Small (numbers v)) (FirstRefusal (line_checks known counted line))

-- whatever event the line spells, that is the answer
abbrev pub ReadsEveryEvent : List ℕ → Result Event Refusal → Type 0
ReadsEveryEvent line r = (v : Event) → line ≡ spell_event v → Small (numbers v) → r ≡ Ok v
