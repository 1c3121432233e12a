use Rattle.std.proofs.Common.{◌+◌, ◌∙◌, ap, length, arith}
use borrow.Author.Tests.{le-ltb}
use Rattle.le.proofs.Parts.{lent-part}
use Rattle.shell.specs.Kind.{exit_code}
use Rattle.shell.specs.Frame.{headed_of, length_of, payload_of}
use Rattle.shell.proofs.read_headed.Goals as goal

pub returns : goal.returns
unfolding headed_of length_of payload_of
returns c = let s = c.args.received.now in
    let n = c.get-length.result in
    let code = c.code-code.ensures ∙ ap (exit_code c.args.kind) (lent-part s 5 n) in
    rw (← c.get-length.ensures, ← c.is_empty_exit.ensures, c.if-is_empty_exit.false, le-ltb (length s) (5 + n) (omega arith), code)
