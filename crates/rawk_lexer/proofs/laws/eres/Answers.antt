use Rattle.rawk_lexer.proofs.EreCuts.{shown_is_ere, ere_is_shown}
use Rattle.rawk_lexer.proofs.laws.eres.Goals as goal

pub returns : goal.returns
returns c = record { shown = shown_is_ere; only = ere_is_shown }
