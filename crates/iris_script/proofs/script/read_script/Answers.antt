use Rattle.iris_script.specs.Script.{script_lines}
use Rattle.iris_script.proofs.ScriptSoFar.{all_served_or}
use Rattle.iris_script.proofs.script.read_script.Goals as goal

pub returns-clause-err : goal.returns-clause-err
returns-clause-err c = all_served_or (script_lines c.args.bytes.now) c.read_script_for.result c.read_script_for.ensures.err
