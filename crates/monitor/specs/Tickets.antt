-- What a told event and an exchange make of a ticket.
use Rattle.std.specs.Prelude.{◌≡◌, ℕ, Result, MatchResult}
use Rattle.books.specs.declared.members.Members.{Members}
use Rattle.books.specs.Points.{member}
use Rattle.rules.specs.declared.vocabulary.Action.{Action}
use Rattle.rules.specs.declared.vocabulary.Action.TheVariants.{Begin, Finish}
use Rattle.rules.specs.declared.vocabulary.Outcome.{Outcome}
use Rattle.rules.specs.declared.vocabulary.Status.TheVariants.{Running}
use Rattle.rules.specs.Events.{◌does◌}
use Rattle.rules.specs.Picture.{status}
use Rattle.rules.specs.Refusals.{Refused as IsRefused}
use Rattle.monitor.specs.declared.monitor.Monitor.{Monitor}
use Rattle.monitor.specs.declared.tickets.Refused.{Refused}
use Rattle.monitor.specs.declared.tickets.Running.{Running as OfRunning}
use Rattle.monitor.specs.declared.tickets.Ticket.{Ticket}
use Rattle.monitor.specs.declared.tickets.Tickets.{Tickets}
use Rattle.monitor.specs.declared.tickets.Tickets.TheVariants.{Runs, Begun, Waits, Finished}
use Rattle.monitor.specs.declared.tickets.Told.{Told}
use Rattle.monitor.specs.declared.tickets.Waiting.{Waiting as OfWaiting}
use Rattle.monitor.specs.Of.{state_of}
use Rattle.monitor.specs.State.{Accepts}

-- task t does x, and the event is accepted with that outcome and these names
abbrev pub ToldOf : Monitor → ℕ → Action → Outcome → Members → Monitor → Type 0
ToldOf m t x o added w = Accepts (state_of m) (t does x) o (member added) (state_of w)

-- the monitor shows task t Running
abbrev pub ShowsRunning : Monitor → ℕ → Type 0
ShowsRunning m t = status (state_of m).picture t ≡ Running

-- the tickets that there are once task t was told x, and the monitor has become w
abbrev pub HasTickets : Monitor → ℕ → Action → Tickets → Type 0
HasTickets w t x (Runs k) = ShowsRunning w t × (k.task ≡ t)
HasTickets w t x (Begun k c) = ShowsRunning w t × (k.task ≡ t) × ShowsRunning w c.task × ((entries : ℕ) × (x ≡ Begin c.task entries))
HasTickets w t x (Waits k) = (ShowsRunning w t → ⊥) × (k.task ≡ t)
HasTickets w t x Finished = x ≡ Finish

-- task t told x, and this came of it; a refusal leaves the monitor as it was, and gives the ticket back
abbrev pub TicketTold : Monitor → ℕ → Action → Result Told Refused → Monitor → Type 0
TicketTold m t x r w =
    MatchResult r (λ a. ToldOf m t x a.outcome a.added w × HasTickets w t x a.tickets)
    (λ e. IsRefused (state_of m).picture (t does x) e.refusal × (w ≡ m) × (e.ticket.task ≡ t))

-- a waiting ticket of task t was handed in: a running one came back where the task is Running, and else the same
abbrev pub Exchanged : Monitor → ℕ → Result (Ticket OfRunning) (Ticket OfWaiting) → Type 0
Exchanged m t r = MatchResult r (λ k. ShowsRunning m t × (k.task ≡ t)) (λ k. (ShowsRunning m t → ⊥) × (k.task ≡ t))

-- the ticket that task t has now
abbrev pub TicketAfter : Monitor → ℕ → Tickets → Type 0
TicketAfter m t (Runs k) = ShowsRunning m t × (k.task ≡ t)
TicketAfter m t (Begun k c) = ⊥
TicketAfter m t (Waits k) = (ShowsRunning m t → ⊥) × (k.task ≡ t)
TicketAfter m t Finished = ⊥
