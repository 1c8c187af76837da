use Rattle.std.proofs.Common.{◌≡◌, sym, ◌∙◌, ap, List, ℕ, Some}
use Rattle.std.specs.Prelude.{position}
use Rattle.iris_plain.specs.Files.{resized_bytes}
use Rattle.iris_plain.specs.Routes.{is_path}
use Rattle.iris_plain.specs.declared.files.Entry.{Entry}
use Rattle.iris_plain.proofs.EntryLaws.{reset_none, reset_set, set_back, on_ok, on_err, look_place}
use Rattle.iris_plain.proofs.files.resize_at.Goals as goal

pub returns-in-None-clause-ok : goal.returns-in-None-clause-ok
returns-in-None-clause-ok c = λ q. reset_none c.args.entries.now.items c.args.names.now (resized_bytes c.args.size) q (ap (position (λ (e : Entry). is_path e.path c.args.names.now)) (sym c.as_slice.ensures.value) ∙ sym c.in-None.ensures)

place : (es now : List Entry) (names : List (List ℕ)) (i : ℕ) → now ≡ es → Some i ≡ position (λ (e : Entry). is_path e.path names) now → position (λ (e : Entry). is_path e.path names) es ≡ Some i
place es now names i h k = ap (position (λ (e : Entry). is_path e.path names)) (sym h) ∙ sym k

pub returns-in-Some-clause-ok : goal.returns-in-Some-clause-ok
returns-in-Some-clause-ok c = on_ok c.resize_entry.result _ _ (λ k. λ q. reset_set c.args.entries.now.items c.args.names.now c.in-Some.place c.resize_entry.new.entry c.index_mut.result.now (resized_bytes c.args.size) q
    (place c.args.entries.now.items c.as_slice.result.now c.args.names.now c.in-Some.place c.as_slice.ensures.value c.in-Some.ensures) c.index_mut.ensures.value c.resize_entry.ensures.path k) c.resize_entry.ensures.ok

pub returns-in-Some-clause-err : goal.returns-in-Some-clause-err
returns-in-Some-clause-err c = on_err c.resize_entry.result _ _ (λ k. set_back c.args.entries.now.items c.in-Some.place c.resize_entry.new.entry c.index_mut.result.now c.index_mut.ensures.value
    (look_place c.args.entries.now.items c.args.names.now c.in-Some.place c.index_mut.result.now (place c.args.entries.now.items c.as_slice.result.now c.args.names.now c.in-Some.place c.as_slice.ensures.value c.in-Some.ensures)).0 c.resize_entry.ensures.path k) c.resize_entry.ensures.err
