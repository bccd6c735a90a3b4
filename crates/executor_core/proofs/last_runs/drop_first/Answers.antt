use Rattle.std.proofs.Common.{◌≡◌, ◌-◌, ◌++◌, ℕ, List, not, filter, take, drop, length-drop, append-nil, sym, ap, ◌∙◌, arith}
use Rattle.std.specs.VecDeque.{deque_len}
use Rattle.executor_core.specs.declared.last_runs.LastRun.{LastRun}
use Rattle.executor_core.specs.Rows.{is_trimmed_run}
use Rattle.executor_core.proofs.Firsts.{turned_all}
use Rattle.executor_core.proofs.last_runs.drop_first.Goals as goal

pub loop-read-init : goal.loop-read-init
loop-read-init c = record { items = sym (append-nil c.args.runs.now.items); len = omega arith }

pub returns : goal.returns
returns c =
    let q = λ (run : LastRun). not (is_trimmed_run c.args.at c.args.held.now.ids c.args.queues.now.on_runners run) in
    let all = c.args.runs.now.items in
    let n = deque_len c.loop-read.runs - c.loop-read.kept in
    let read : c.loop-read._read ≡ c.args.old = omega arith in
    c.rotate_right.ensures.items
    ∙ (ap (λ (ys : List LastRun). drop n ys ++ take n ys) c.loop-read.invariant.items
    ∙ (turned_all q c.loop-read._read n all (simp length-drop (omega (arith, c.loop-read.invariant.len)))
    ∙ ap (λ (k : ℕ). filter q (take k all) ++ drop k all) read))
