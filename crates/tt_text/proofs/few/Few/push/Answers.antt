use Rattle.std.proofs.Common.{◌≡◌, ◌+◌, length, drop, rules}
use Rattle.tt_text.proofs.RoomLemmas.{room_after}
use Rattle.tt_text.proofs.few.Few.push.Goals as goal

pub invariant_of-self : goal.invariant_of-self
invariant_of-self c =
    let len = c.self.inside.room.len in
    let more = length c.args.bytes.now in
    let rest : drop (len + more) c.write_at.new.room ≡ drop (len + more) c.self.inside.room.bytes = search rules in
    (search rules, search rules, room_after len more c.self.inside.room.bytes c.write_at.new.room c.self.invariant.2 rest)
