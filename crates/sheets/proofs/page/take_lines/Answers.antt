use Rattle.std.proofs.Common.{◌≡◌, ◌+◌, [], ◌++◌, string_bytes, sym, ap, ◌∙◌, subst, append_assoc, add-zero, zero-add, arith}
use Rattle.std.proofs.lemmas.List.{append-nil}
use Rattle.refusals.specs.Table.{number_of}
use Rattle.lines.specs.Pieces.{lines_of}
use Rattle.sheets.specs.Page.{Fed, none, refusal_line}
use Rattle.sheets.specs.Sheets.{follow}
use Rattle.sheets.proofs.Pages.{one_taken, one_refused}
use Rattle.sheets.proofs.page.take_lines.Goals as goal

pub loop-i-init : goal.loop-i-init
loop-i-init c =
    let it = c.into_iter-i-iterator.result in
    let same = c.into_iter-i-iterator.ensures.into_iter_gives in
    let left : it.iter ≡ lines_of c.args.input.now = ap (λ x. x.iter) same ∙ c.enumerate-i-items.ensures.source ∙ c.lines.ensures.value in
    let start : it.count ≡ 0 = ap (λ x. x.count) same ∙ c.enumerate-i-items.ensures.count in
    (([], sym (append-nil _), λ g t more h. rw (zero-add t) (rw (start, left) at h)), omega (arith, start))

pub loop-i-preserved-in-Ok : goal.loop-i-preserved-in-Ok
loop-i-preserved-in-Ok c =
    let n = c.loop-i.i-iterator.count + 1 in
    let inv = c.loop-i.invariant in
    let step = c.in-Some.ensures.steps in
    let taken = c.loop-i.taken in
    let first = follow c.args.sheet.now in
    let f = follow c.loop-i.sheet in
    let f' = follow c.take_line.new.self in
    let rest = c.next.new.self.iter in (
      (
        inv.0.0,
        inv.0.1,
        λ g t more h.
            one_taken n t f f' g (lines_of c.args.input.now) first taken inv.0.0 c.in-Some.line.now more _ rest step.0 inv.0.2 c.in-Ok.ensures (subst (λ k. Fed (k + 1) f' rest g t more) step.2 h),
      ),
      omega (arith, inv.1, step.2),
    )

pub loop-i-preserved : goal.loop-i-preserved
loop-i-preserved c =
    let n = c.loop-i.i-iterator.count + 1 in
    let inv = c.loop-i.invariant in
    let step = c.in-Some.ensures.steps in
    let so_far = inv.0.0 in
    let taken = c.loop-i.taken in
    let first = follow c.args.sheet.now in
    let f = follow c.loop-i.sheet in
    let rest = c.next.new.self.iter in
    let text = string_bytes c.args.text.now in
    let e = c.in-Err.refusal in
    let line = refusal_line n (number_of e) in
    let refused : refusal_line (c.in-Some.i + 1) c.number.result ≡ line = (λ i. refusal_line (step.1 i + 1) (c.number.ensures i)) in
    let same : follow c.take_line.new.self ≡ f = ap follow c.in-Err.ensures.1 in (
      (
        so_far ++ line,
        c.in_ok-writeln-in-Err.ensures.bytes ∙ ap (λ l. string_bytes c.loop-i.text ++ l) refused ∙ ap (λ l. l ++ line) inv.0.1 ∙ append_assoc text so_far line,
        λ g t more h.
            one_refused n t f f g (lines_of c.args.input.now) first taken so_far c.in-Some.line.now more _ rest step.0 inv.0.2 e c.in-Err.ensures.0
            (subst (λ m. Fed (n + 1) m rest g t more) same (subst (λ k. Fed (k + 1) (follow c.take_line.new.self) rest g t more) step.2 h)),
      ),
      omega (arith, inv.1, step.2),
    )

pub returns : goal.returns
returns c =
    let inv = c.loop-i.invariant in
    let so_far = inv.0.0 in
    let sheet = follow c.loop-i.sheet in
    let n = c.loop-i.i-iterator.count + 1 in
    let none_left : Fed n sheet c.loop-i.i-iterator.iter sheet 0 [] = subst (λ ls. Fed n sheet ls sheet 0 []) (sym c.in-None.ensures.steps.0.0) none in
    (so_far, rw (← append-nil so_far, ← add-zero c.loop-i.taken) (inv.0.2 sheet 0 [] none_left), inv.0.1)
