-- The table of refusals: the number of each.
use Rattle.std.specs.Prelude.{ℕ}
use Rattle.refusals.specs.declared.Refusal.{Refusal}
use Rattle.refusals.specs.declared.Refusal.TheVariants.{LineLength, UnknownLetter, FieldCount, NotANumber, ActorNotBegun, ActorNotRunning, AllTasksBegun, ChildNotNext, TooManyEntries, NoRoomForBlock, NoBlockToLeave, ServerNotBegun, NoSuchEntry, BadOpenSet, NoRoomForRendezvous, NoRendezvousToEnd, FrameOpen, ReportTooLong, LineRefused, InputTooLong, UnknownParty, TooManyListed, NeedsTooMany, UnknownListed, ListedTwice}

-- the number by which a refusal is reported
abbrev pub number_of : Refusal → ℕ
number_of LineLength = 1
number_of UnknownLetter = 2
number_of FieldCount = 3
number_of NotANumber = 4
number_of ActorNotBegun = 5
number_of ActorNotRunning = 6
number_of AllTasksBegun = 7
number_of ChildNotNext = 8
number_of TooManyEntries = 9
number_of NoRoomForBlock = 10
number_of NoBlockToLeave = 11
number_of ServerNotBegun = 12
number_of NoSuchEntry = 13
number_of BadOpenSet = 14
number_of NoRoomForRendezvous = 15
number_of NoRendezvousToEnd = 16
number_of FrameOpen = 17
number_of ReportTooLong = 18
number_of LineRefused = 19
number_of InputTooLong = 20
number_of UnknownParty = 21
number_of TooManyListed = 22
number_of NeedsTooMany = 23
number_of UnknownListed = 24
number_of ListedTwice = 25
