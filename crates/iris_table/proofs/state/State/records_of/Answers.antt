use Rattle.std.proofs.Common.{List, subst}
use Rattle.std.proofs.lemmas.Result.{IfOk-weaker}
use Rattle.iris_records.specs.Records.{AreLive}
use Rattle.iris_table.specs.Served.{State, table_in}
use Rattle.iris_rows.specs.Items.{table_over}
use Rattle.iris_rows.specs.declared.item.Item.{Item}
use Rattle.iris_table.proofs.state.State.records_of.Goals as goal

pub returns : goal.returns
returns c = IfOk-weaker c.records_of.result _ _ (λ records live.
    let visible = λ (v : List Item). AreLive c.args.keys.now (table_over v c.as_slice-2.result.now c.self.inside.next c.self.inside.age) records.items in
    let trash = λ (v : List Item). AreLive c.args.keys.now (table_over c.self.inside.visible.items v c.self.inside.next c.self.inside.age) records.items in
    let whole = λ (s : State). AreLive c.args.keys.now (table_in s) records.items in
    subst whole c.self.view_is (subst trash c.as_slice-2.ensures.value (subst visible c.as_slice.ensures.value (live c.self.inside.next c.self.inside.age)))) c.records_of.ensures
