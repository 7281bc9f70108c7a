use Rattle.std.proofs.Common.{sym, subst}
use Rattle.rules.specs.Rules.{Step}
use Rattle.tasks.specs.declared.picture.Picture.{Picture}
use Rattle.tasks.specs.View.{view}
use Rattle.task_book.specs.declared.book.TaskBook.{TaskBook}
use Rattle.task_book.specs.Book.{picture_of}
use Rattle.task_book.specs.Names.{HoldsDead}
use Rattle.monitor.proofs.Exactly.{exact_names, newly_dead, none_newly_dead, old_and_new, only_old, still_exact}
use Rattle.monitor.proofs.monitor.Monitor.tell_event.Goals as goal

pub invariant_of-self : goal.invariant_of-self
invariant_of-self c =
    let m = c.args.self.now in
    record { exact = subst (λ (x : Picture). ∥ (HoldsDead m.names (view x.tables)) ∥₁) (sym c.in_err-outcome.ensures.told.1) m.exact }

pub invariant_of-self-then-not-may_make_dead : goal.invariant_of-self-then-not-may_make_dead
invariant_of-self-then-not-may_make_dead c =
    let m = c.args.self.now in
    let p = picture_of m.tasks.watch.book in record {
      exact = ∣ still_exact p (view c.tell.new.self.watch.book.picture.tables) c.args.event c.in_ok-outcome.outcome m.tasks.watch.book.picture.reached
          c.in_ok-outcome.ensures.told (c.may_make_dead.ensures c.if-not-may_make_dead.true) m.names (exact_names m) ∣₁;
    }

pub returns-then-not-may_make_dead : goal.returns-then-not-may_make_dead
returns-then-not-may_make_dead c =
    let m = c.args.self.now in
    let p = picture_of m.tasks.watch.book in
    let q = view c.tell.new.self.watch.book.picture.tables in
    let v = c.args.event in
    let o = c.in_ok-outcome.outcome in
    let step = c.in_ok-outcome.ensures.told in
    let reached = m.tasks.watch.book.picture.reached in
    let harmless = c.may_make_dead.ensures c.if-not-may_make_dead.true in
    let before = exact_names m in
    record {
      step = step;
      adds = none_newly_dead p q v o reached step harmless m.names before c.empty.result c.empty.ensures;
      names = only_old p q v o reached step harmless m.names before c.empty.result c.empty.ensures;
    }

pub invariant_of-self-2 : goal.invariant_of-self-2
invariant_of-self-2 c =
    let judged = c.judge-names.ensures in
    record { exact = ∣ subst (λ (b : TaskBook). HoldsDead c.judge-names.result (picture_of b)) (sym judged.same) judged.dead ∣₁ }

pub returns : goal.returns
returns c =
    let m = c.args.self.now in
    let v = c.args.event in
    let o = c.in_ok-outcome.outcome in
    let p = picture_of m.tasks.watch.book in
    let q = picture_of c.judge-names.new.self.watch.book in
    let judged = c.judge-names.ensures in
    let new = c.judge-names.result in
    let step : Step p v o q = subst (λ (b : TaskBook). Step p v o (picture_of b)) (sym judged.same) c.in_ok-outcome.ensures.told in
    let before = exact_names m in
    let after : HoldsDead new q = subst (λ (b : TaskBook). HoldsDead new (picture_of b)) (sym judged.same) judged.dead in
    record {
      step = step;
      adds = newly_dead p q v o step m.names new c.difference-added.result c.difference-added.ensures before after;
      names = old_and_new p q v o step m.names new c.difference-added.result c.difference-added.ensures before after;
    }
