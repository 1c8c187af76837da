use Rattle.iris.proofs.PlainEnds.{words_end, served_end, line_end, client_end, length_end}
use Rattle.iris.proofs.plain.plain_run.Goals as goal

pub returns-clause-bad_words : goal.returns-clause-bad_words
returns-clause-bad_words g c = rw c.told.ensures (words_end _ _ _ _ _ _ _ _ _ c.run.result c.run.ensures)

pub returns-clause-served : goal.returns-clause-served
returns-clause-served g c = λ master bytes calls spoken is short asks x y. rw c.told.ensures (served_end _ _ _ _ _ _ _ _ _ c.run.result c.run.ensures master bytes calls spoken is short asks x y)

pub returns-clause-tells_line : goal.returns-clause-tells_line
returns-clause-tells_line g c = λ master bytes n spoken is short first x. rw c.told.ensures (line_end _ _ _ _ _ _ _ _ _ c.run.result c.run.ensures master bytes n spoken is short first x)

pub returns-clause-tells_client : goal.returns-clause-tells_client
returns-clause-tells_client g c = λ master bytes n spoken is short first x. rw c.told.ensures (client_end _ _ _ _ _ _ _ _ _ c.run.result c.run.ensures master bytes n spoken is short first x)

pub returns-clause-tells_length : goal.returns-clause-tells_length
returns-clause-tells_length g c = λ master bytes spoken is long x. rw c.told.ensures (length_end _ _ _ _ _ _ _ _ _ c.run.result c.run.ensures master bytes spoken is long x)
