use Rattle.std.proofs.Common.{◌≡◌, ℕ, cond, List, [], ◌∷◌, ◌++◌, length, take, not, eqb, filter, map, sym, ap, ◌∙◌, arith}
use Rattle.std.proofs.Math.ListN.{get_or}
use Rattle.std.proofs.lemmas.List.{append-nil, length-append, take_all}
use Rattle.std.proofs.lemmas.List.Elements.{filter_more}
use Rattle.tasks.specs.View.{view}
use Rattle.tasks.specs.declared.ids.TaskId.{TaskId}
use Rattle.tasks.proofs.Lists.{map-filter}
use Rattle.tasks.proofs.tables.Tables.leave_queue.Goals as goal
use Rattle.tasks.proofs.tables.Tables.leave_queue.Goals.{then-ne, else-ne}

pub loop-other-init : goal.loop-other-init
loop-other-init c = (c.new-others.ensures, omega (arith, ap length c.new-others.ensures))

pub push-requires : goal.push-requires
push-requires c = (omega arith, omega (arith, c.loop-other.invariant.1, c.as_slice-other-items.ensures.fits, c.loop-other-test.true))

pub loop-other-preserved : goal.loop-other-preserved
loop-other-preserved c =
    let stays = λ (t : TaskId). not (eqb t.number c.args.caller.number) in
    let items = c.as_slice-other-items.result.now in
    let i = c.loop-other.other-index in
    let x = c.other-item.result in
    let inv = c.loop-other.invariant in
    let more = filter_more stays items i x c.loop-other-test.true in
    let here : get_or items i x ≡ x = sym c.other-item.is in
    elim c.if-ne.branch [
      | then-ne w ↦ rw w.others-is (
        w.push.ensures.items ∙ ap (λ l. l ++ (x ∷ [])) inv.0 ∙ sym (more ∙ ap (λ y. filter stays (take i items) ++ cond (stays y) (y ∷ []) []) here ∙ ap (λ b. filter stays (take i items) ++ cond b (x ∷ []) []) (sym c.ne.ensures ∙ w.if-ne.true)),
        omega (arith, inv.1, ap length w.push.ensures.items, length-append c.loop-other.others.items (x ∷ [])),
      )
      | else-ne w ↦ rw w.others-is (
        inv.0 ∙ sym (more ∙ ap (λ y. filter stays (take i items) ++ cond (stays y) (y ∷ []) []) here ∙ ap (λ b. filter stays (take i items) ++ cond b (x ∷ []) []) (sym c.ne.ensures ∙ w.if-ne.false) ∙ append-nil (filter stays (take i items))),
        omega (arith, inv.1),
      )
    ]

pub returns : goal.returns
returns c =
    let p = view c.args.self.now in
    let stays = λ (t : ℕ). not (eqb t c.args.caller.number) in
    let kept = c.loop-other.invariant.0 ∙ ap (filter (λ (t : TaskId). stays t.number)) (take_all c.loop-other.other-index c.as_slice-other-items.result.now c.loop-other-test.false ∙ c.as_slice-other-items.ensures.value) in
    ap (λ (xs : List ℕ). record { begun = p.begun; task = p.task; arrivals = xs }) (ap (map (λ (t : TaskId). t.number)) kept ∙ map-filter (λ (t : TaskId). t.number) stays c.args.self.now.arrivals.items)
