use Rattle.std.proofs.Common.{◌≡◌, ◌++◌, string_bytes}
use Rattle.std.specs.List.{flat_map}
use Rattle.sheets.specs.Page.{party_line}
use Rattle.sheets.proofs.page.put_parties.Given as goal

abbrev pub invariant-loop-party : goal.invariant-loop-party
invariant-loop-party l =
    (goal.iterator-loop-party).can_next l.party-iterator
    × (goal.iterator-loop-party).is_finite l.party-iterator
    × (string_bytes l.text ≡ string_bytes l.initial.text ++ flat_map party_line l.yielded)
