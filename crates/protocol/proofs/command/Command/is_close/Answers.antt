use mathlib.Core.Path.{◌≡◌, refl, ◌∙◌}
use denote.Enum.Bare.{sameb}
use Rattle.le.specs.Le.{num_of}
use Rattle.protocol.specs.contracts.command.Command.{the_type}
use Rattle.protocol.specs.declared.command.Command.TheVariants.{Close}
use Rattle.protocol.specs.Command.{letters_of, word_of, is_the, is_close}
use Rattle.protocol.proofs.CommandLaws.{by_command}
use Rattle.protocol.proofs.command.Command.is_close.Goals as goal

pub returns : goal.returns
unfolding is_close is_the word_of letters_of num_of
returns c = c.eq.ensures ∙ by_command (λ d. sameb the_type d Close ≡ is_close d) refl refl refl refl refl refl refl refl c.args.self
