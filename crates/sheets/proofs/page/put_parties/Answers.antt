use Rattle.std.proofs.Common.{rules, tests, [], ◌++◌, string_bytes, sym, ap, ◌∙◌, append_assoc, refl}
use Rattle.std.specs.List.{flat_map}
use Rattle.std.proofs.lemmas.List.{append-nil, flat_map_more, map-id}
use Rattle.std.proofs.lemmas.Iterator.{YieldsList-from_range}
use Rattle.std.proofs.lemmas.Iterator.Consumers.{YieldsList-at, YieldsList-from_filter, YieldsList-end}
use Rattle.books.specs.Points.{has}
use Rattle.sheets.specs.Page.{party_line}
use Rattle.sheets.proofs.Pages.{members_filter}
use Rattle.sheets.proofs.page.put_parties.Goals as goal

pub loop-party-init : goal.loop-party-init
loop-party-init c = (search rules, search rules, sym (append-nil _))

pub loop-party-preserved : goal.loop-party-preserved
loop-party-preserved c =
    let start = string_bytes c.args.text.now in
    let (_, _, so_far) = c.loop-party.invariant in (
      search rules,
      search rules,
      c.in_ok-writeln.ensures.bytes ∙ ap (λ l. l ++ party_line c.in-Some.party) so_far ∙ append_assoc start (flat_map party_line c.loop-party.yielded) (party_line c.in-Some.party)
          ∙ ap (λ l. start ++ l) (flat_map_more party_line [] c.loop-party.yielded c.in-Some.party),
    )

pub returns : goal.returns
returns c =
    let out = has c.args.out.now in
    let seen = YieldsList-end
    (YieldsList-at c.into_iter-party-iterator.ensures.into_iter_gives
    (YieldsList-from_filter _ out (YieldsList-from_range 0 96 96 c.filter-party-items.ensures.source refl) c.filter-party-items.ensures.closure (λ x r q k. search (rules, tests))))
    c.loop-party.yielded _ c.loop-party.yielded_by _ _ c.in-None.is c.next.ensures.steps in
    let (_, _, told) = c.loop-party.invariant in
    told ∙ ap (λ l. string_bytes c.args.text.now ++ flat_map party_line l) (sym (map-id _) ∙ seen.0 ∙ members_filter 96 out)
