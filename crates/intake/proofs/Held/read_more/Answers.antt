use Rattle.std.proofs.Common.{refl, sym, ◌+◌, ◌-◌, length, rules, Continue, Break}
use borrow.Author.Tests.{lt-ltb, le-ltb}
use Rattle.intake.proofs.Laws.{reads_more, came_behind}
use Rattle.intake.proofs.Held.read_more.Goals as goal

pub returns-then-came-gt0-clause-held : goal.returns-then-came-gt0-clause-held
returns-then-came-gt0-clause-held g c =
    let m = c.move_down.new.share in
    let n = c.args.self.end - c.args.self.at in
    let k = c.came-came.result in
    reads_more c.args.buf.now m c.came-came.new.buf c.args.self.at c.args.self.end k (length m - n) (Continue (record { at = 0; end = n + k })) refl
    (sym (lt-ltb 0 c.came-came.result c.if-came-gt0.true)) c.requires.ordered c.requires.inside c.move_down.ensures (search rules)

pub returns-then-came-gt0-clause-bytes : goal.returns-then-came-gt0-clause-bytes
returns-then-came-gt0-clause-bytes g c =
    let m = c.move_down.new.share in
    let n = c.args.self.end - c.args.self.at in
    rw (came_behind m c.came-came.new.buf n (length m - n) c.came-came.result (search rules) c.came-came.ensures.bound) c.came-came.ensures.bytes

pub returns-else-came-gt0-clause-held : goal.returns-else-came-gt0-clause-held
returns-else-came-gt0-clause-held g c =
    let m = c.move_down.new.share in
    let n = c.args.self.end - c.args.self.at in
    let k = c.came-came.result in
    reads_more c.args.buf.now m c.came-came.new.buf c.args.self.at c.args.self.end k (length m - n) (Break (record { at = 0; end = n + k })) refl
    (sym (le-ltb 0 c.came-came.result c.if-came-gt0.false)) c.requires.ordered c.requires.inside c.move_down.ensures (search rules)

pub returns-else-came-gt0-clause-bytes : goal.returns-else-came-gt0-clause-bytes
returns-else-came-gt0-clause-bytes g c =
    let m = c.move_down.new.share in
    let n = c.args.self.end - c.args.self.at in
    rw (came_behind m c.came-came.new.buf n (length m - n) c.came-came.result (search rules) c.came-came.ensures.bound) c.came-came.ensures.bytes
