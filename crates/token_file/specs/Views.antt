-- What a feed holds, as the model has it: a short name for what the contracts cite.
-- Assumes nothing.
use Rattle.std.specs.Prelude.{ℕ, List, get_or}
use Rattle.model.specs.declared.Token.{Token}
use Rattle.model.specs.NetworkFile.{body_at}
use Rattle.model.specs.States.{tokens_in}
use Rattle.token_file.specs.declared.Feed.{Feed}

-- the tokens in the field that is noted for input i
abbrev pub listed : Feed → ℕ → List Token
listed d i = tokens_in (body_at d.site.tokens.now (get_or d.fields.now i 0))
