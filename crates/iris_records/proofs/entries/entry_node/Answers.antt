use Rattle.std.proofs.Common.{sym, ◌∙◌, subst, arith}
use Rattle.std.specs.Str.{IsUtf8}
use Rattle.iris_node.specs.Rules.{IsFileName}
use Rattle.iris_records.proofs.EntryRecords.{file_name}
use Rattle.iris_records.proofs.entries.entry_node.Goals as goal

pub invariant_of-result : goal.invariant_of-result
invariant_of-result c =
    let id = c.requires.row.id in
    record {
      root = λ h. absurd (omega (arith, h, id));
      name = λ h. subst IsFileName (sym c.in_ok-name.ensures) (file_name c.args.row.now.name c.requires.row.name (subst IsUtf8 (c.as_str-text.ensures ∙ c.in_ok-name.ensures) c.as_str-text.utf8));
      left = c.requires.left;
      right = c.requires.right;
      body = c.requires.body;
    }
