use Rattle.iris_records.proofs.RecordsOfItems.{dir_told, dir_inside}
use Rattle.iris_records.proofs.PartRecords.{adds_same}
use Rattle.std.proofs.Common.{ℕ, ap, ◌∙◌}
use Rattle.iris_node.specs.declared.node.Body.TheVariants.{Dir}
use Rattle.iris_records.specs.declared.entries.Told.{Told}
use Rattle.iris_records.proofs.records.put_item.Goals as goal

pub returns-clause-told : goal.returns-clause-told
returns-clause-told c =
    let told : ℕ → Told = λ z. record { body = Dir c.in_ok-top.top; blocks = z } in
    ap told c.blocks_behind.ensures ∙ dir_told c.args.keys.now.order c.args.item.now c.args.after.now c.in_ok-top.top c.in_ok-depth.depth c.in_default.is c.in_ok-depth.ensures c.in_ok-top.ensures.link

pub returns-clause-puts : goal.returns-clause-puts
returns-clause-puts c =
    adds_same c.args.keys.now.block _ _ _ _ (λ n. dir_inside c.args.keys.now.order n c.args.item.now c.args.after.now c.in_ok-depth.depth c.in_default.is c.in_ok-depth.ensures) (c.in_ok-top.ensures.puts c.args.keys.now.block)
