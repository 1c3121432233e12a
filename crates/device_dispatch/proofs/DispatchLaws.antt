-- What a dispatch leaves that is handed no bytes. Assumes nothing.
use Rattle.std.proofs.Common.{◌≡◌, sym, ap, ◌∙◌, List, [], Option, Some, None, Result, Ok, ℕ, arith}
use Rattle.le.specs.Rows.{flat}
use Rattle.config.specs.declared.negotiated.Negotiated.{Negotiated}
use Rattle.protocol.specs.declared.packet.DecodeError.{DecodeError}
use Rattle.protocol.specs.declared.packet.Packet.{Packet}
use Rattle.protocol.specs.Packet.{decode_of}
use Rattle.connection.specs.Calls.{Lent, dispatch_by, dispatch_step, ends}
use Rattle.connection.specs.Frames.{frames_bytes}
use Rattle.device.proofs.CalledLaws.{ShortWait}
use Rattle.device.proofs.MeetLaws.{nothing-received}

pub dispatch_short : (n : Negotiated) (l : Lent) → ShortWait n (dispatch_step l [])
unfolding dispatch_step dispatch_by ends frames_bytes flat
dispatch_short n l = rw (nothing-received l) (λ e. omega arith)

-- ---- what was decoded

pub decoded-some : (s : List ℕ) (limit : ℕ) (p : Packet) (r : Result (Option Packet) DecodeError) (x : Option Packet) → r ≡ decode_of s limit → r ≡ Ok x → x ≡ Some p → decode_of s limit ≡ Ok (Some p)
decoded-some s limit p r x e f g = sym e ∙ f ∙ ap (λ (y : Option Packet). Ok y) g

pub decoded-none : (s : List ℕ) (limit : ℕ) (r : Result (Option Packet) DecodeError) (x : Option Packet) → r ≡ decode_of s limit → r ≡ Ok x → x ≡ None → decode_of s limit ≡ Ok None
decoded-none s limit r x e f g = sym e ∙ f ∙ ap (λ (y : Option Packet). Ok y) g
