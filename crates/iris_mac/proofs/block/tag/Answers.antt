use Rattle.iris_name.specs.Hmac.{padded_with, key_block}
use Rattle.sha2.specs.Hashers.{Holds256}
use Rattle.iris_mac.proofs.Pieces.{tag_from}
use Rattle.iris_mac.proofs.block.tag.Goals as goal

pub returns : goal.returns
returns c =
    tag_from (Holds256 c.update-4.new.self) (padded_with 0x36 (key_block c.args.keys.now.block)) c.args.keys.now.block c.args.block.now
    c.to_be_bytes.result c.to_be_bytes-2.result c.to_be_bytes-3.result c.finish.result c.args.file.0 c.args.place c.args.version
    c.to_be_bytes.ensures c.to_be_bytes-2.ensures c.to_be_bytes-3.ensures
    (c.update-4.ensures _ (c.update-3.ensures _ (c.update-2.ensures _ (c.update.ensures _ c.begin-inner.ensures))))
    c.finish.ensures
