-- Each point is decided as the rules have it, and the law is the rules' law; past the last task none has begun.
use Rattle.task_book.specs.Decides.{end_point, run_point}
use Rattle.task_book.specs.Bridge.{beyond, grows}
use Rattle.task_book.proofs.theorems.book_is_the_rules.Goals as goal

pub returns : goal.returns
returns c p = record { runs = run_point p; ends = end_point p; law = grows p; beyond = λ few q S. beyond p q S few }
