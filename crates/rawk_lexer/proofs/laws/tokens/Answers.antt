use Rattle.rawk_lexer.proofs.Cuts.{shown_is_token, token_is_shown}
use Rattle.rawk_lexer.proofs.laws.tokens.Goals as goal

pub returns : goal.returns
returns c = record { shown = shown_is_token; only = token_is_shown }
