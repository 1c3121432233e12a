use mathlib.Core.Path.{◌≡◌, refl, ◌∙◌}
use denote.Enum.Bare.{sameb}
use Rattle.le.specs.Le.{num_of}
use Rattle.protocol.specs.contracts.command.Command.{the_type}
use Rattle.protocol.specs.declared.command.Command.TheVariants.{Write}
use Rattle.protocol.specs.Command.{letters_of, word_of, is_the, is_write}
use Rattle.protocol.proofs.CommandLaws.{by_command}
use Rattle.protocol.proofs.command.Command.is_write.Goals as goal

pub returns : goal.returns
unfolding is_write is_the word_of letters_of num_of
returns c = c.eq.ensures ∙ by_command (λ d. sameb the_type d Write ≡ is_write d) refl refl refl refl refl refl refl refl c.args.self
