use Rattle.std.proofs.Common.{sym, ◌∙◌}
use Rattle.device_make.proofs.MakeLaws.{make-short, make-bad, make-done, head-room}
use Rattle.device_make.proofs.make.Goals as goal

pub returns-then-state-lt-DEVICE_LEN : goal.returns-then-state-lt-DEVICE_LEN
returns-then-state-lt-DEVICE_LEN c =
    make-short c.args.config c.args.text.now c.args.state.now c.if-state-lt-DEVICE_LEN.true

pub put_head-requires : goal.put_head-requires
put_head-requires c =
    head-room c.args.config c.args.text.now c.args.state.now c.if-state-lt-DEVICE_LEN.false _
    (sym c.fits.ensures ∙ c.if-fits.true) c.split_at_mut-head.ensures.front_len

pub returns-then-fits : goal.returns-then-fits
returns-then-fits c =
    make-done c.args.config c.args.text.now c.args.state.now c.if-state-lt-DEVICE_LEN.false _ _ _ _
    (sym c.fits.ensures ∙ c.if-fits.true) c.split_at_mut-head.ensures.front c.split_at_mut-head.ensures.back
    c.put_head.ensures c.make-made.ensures.state-is

pub returns : goal.returns
returns c =
    make-bad c.args.config c.args.text.now c.args.state.now c.if-state-lt-DEVICE_LEN.false
    (sym c.fits.ensures ∙ c.if-fits.false)
