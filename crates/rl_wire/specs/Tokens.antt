-- The tokens of a MESSAGE frame's text, in their order. For private clauses.
use Rattle.std.specs.Prelude.{◌≡◌, ℕ, List, [], ◌∷◌, ◌++◌, Option, Some, None, option_map, decimal}
use Rattle.json.specs.Token.{Token, begin_object, end_object, begin_array, end_array, key, string, number}
use Rattle.json.specs.Written.{Written}
use Rattle.rl_numbers.specs.declared.actions.TheConstants.{MESSAGE}
use Rattle.rl_ids.specs.Forms.{serial_text}
use Rattle.rl_types.specs.declared.frames.Head.{Head}
use Rattle.rl_types.specs.declared.messages.Item.{Item}
use Rattle.rl_jsonfields.specs.declared.names.Field.{Field}
use Rattle.rl_jsonfields.specs.declared.names.Field.TheVariants as fields
use Rattle.rl_jsonfields.specs.Names.{spelled}

-- the tokens are appended, and what stood before the first of all stays
pub record Adds (old new : Written) (ts : List Token) : Type 0 where
  pub tokens : new.tokens ≡ old.tokens ++ ts
  pub before : new.before ≡ old.before

abbrev pub text_tokens : Field → Option (List ℕ) → List Token
text_tokens f None = []
text_tokens f (Some s) = key (spelled f) ∷ string s ∷ []

abbrev pub number_tokens : Field → Option ℕ → List Token
number_tokens f None = []
number_tokens f (Some n) = key (spelled f) ∷ number (decimal n) ∷ []

abbrev pub message_tokens : Item → List Token
message_tokens m =
    begin_object ∷ (text_tokens fields.ClientId m.client ++ (text_tokens fields.Data m.payload ++ (text_tokens fields.Encoding m.encoding ++ (text_tokens fields.Id m.id ++ (text_tokens fields.Name m.name ++ end_object ∷ [])))))

abbrev pub messages_tokens : List Item → List Token
messages_tokens [] = []
messages_tokens (m ∷ ms) = message_tokens m ++ messages_tokens ms

-- before the messages
abbrev pub front_tokens : Head → List Token
front_tokens h =
    begin_object ∷ (number_tokens fields.Action (Some MESSAGE) ++ (text_tokens fields.Channel (Some h.channel) ++ (text_tokens fields.ChannelSerial (option_map serial_text h.serial) ++ (text_tokens fields.ConnectionId h.conn ++ text_tokens fields.Id h.id))))

abbrev pub list_tokens : List Item → List Token
list_tokens ms = key (spelled fields.Messages) ∷ begin_array ∷ (messages_tokens ms ++ end_array ∷ [])

-- after them
abbrev pub back_tokens : Head → List Token
back_tokens h = number_tokens fields.MsgSerial h.msg ++ (number_tokens fields.Timestamp h.stamp ++ end_object ∷ [])
