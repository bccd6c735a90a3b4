use Rattle.row_indexes.proofs.IdLemmas.{ids-drop_key, all-drop_key}
use Rattle.row_indexes.proofs.log_index.drop_from.Goals as goal

pub returns-then-was-clause-ids : goal.returns-then-was-clause-ids
returns-then-was-clause-ids c =
    rw c.if-was.true (ids-drop_key c.args.log c.log_key.result c.args.keys.now.keys c.drop_key.new.self.keys c.log_key.ensures.key c.drop_key.ensures.keys c.requires.all)

pub returns-then-was-clause-all : goal.returns-then-was-clause-all
returns-then-was-clause-all c = all-drop_key c.log_key.result c.args.keys.now.keys c.drop_key.new.self.keys c.drop_key.ensures.keys c.requires.all
