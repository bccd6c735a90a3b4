use Rattle.row_indexes.proofs.IdLemmas.{ids-put_key, all-put_key, ids-drop_key, all-drop_key}
use Rattle.row_indexes.proofs.log_index.move_log.Goals as goal

pub returns-in-true-false-clause-ids : goal.returns-in-true-false-clause-ids
returns-in-true-false-clause-ids c =
    rw (c.in-true-false.is-0, c.in-true-false.is-1)
    (ids-drop_key c.args.log c.log_key.result c.args.keys.now.keys c.drop_key.new.self.keys c.log_key.ensures.key c.drop_key.ensures.keys c.requires.all)

pub returns-in-true-false-clause-all : goal.returns-in-true-false-clause-all
returns-in-true-false-clause-all c = all-drop_key c.log_key.result c.args.keys.now.keys c.drop_key.new.self.keys c.drop_key.ensures.keys c.requires.all

pub returns-in-false-true-clause-ids : goal.returns-in-false-true-clause-ids
returns-in-false-true-clause-ids c =
    rw (c.in-false-true.is-0, c.in-false-true.is-1)
    (ids-put_key c.args.log c.log_key-in-false-true.result c.args.keys.now.keys c.put.new.self.keys c.log_key-in-false-true.ensures.key c.put.ensures.keys c.requires.all)

pub returns-in-false-true-clause-all : goal.returns-in-false-true-clause-all
returns-in-false-true-clause-all c =
    all-put_key c.log_key-in-false-true.result c.args.keys.now.keys c.put.new.self.keys c.log_key-in-false-true.ensures.bounds c.put.ensures.keys c.requires.all
