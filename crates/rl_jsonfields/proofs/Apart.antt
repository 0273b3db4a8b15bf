-- The names of the fields are different texts.
use Rattle.std.proofs.Common.{◌≡◌, ℕ, ◌==◌, true, false, cond, bytes_eq, List, [], codes, refl, sym, ap, ◌∙◌, eq-eqb}
use Rattle.std.proofs.lemmas.Bool.{eqb-true}
use Rattle.rl_jsonfields.specs.declared.names.Field.{Field}
use Rattle.rl_jsonfields.specs.declared.names.Field.TheVariants as fields
use Rattle.rl_jsonfields.specs.Names.{spelled}

abbrev pub index : Field → ℕ
index fields.Ack = 0
index fields.Action = 1
index fields.Amount = 2
index fields.Boolean = 3
index fields.Bytes = 4
index fields.Channel = 5
index fields.ChannelSerial = 6
index fields.ChannelSerials = 7
index fields.ClientId = 8
index fields.Code = 9
index fields.ConnectionDetails = 10
index fields.ConnectionId = 11
index fields.ConnectionKey = 12
index fields.ConnectionStateTtl = 13
index fields.Count = 14
index fields.Counter = 15
index fields.CounterOp = 16
index fields.Created = 17
index fields.Data = 18
index fields.Encoding = 19
index fields.Entries = 20
index fields.Error = 21
index fields.Flags = 22
index fields.From = 23
index fields.Id = 24
index fields.Key = 25
index fields.Map = 26
index fields.MapOp = 27
index fields.MaxIdleInterval = 28
index fields.MaxMessageSize = 29
index fields.Message = 30
index fields.Messages = 31
index fields.MsgSerial = 32
index fields.Name = 33
index fields.Number = 34
index fields.Object = 35
index fields.ObjectId = 36
index fields.Operation = 37
index fields.Params = 38
index fields.Presence = 39
index fields.Semantics = 40
index fields.Serial = 41
index fields.SiteCode = 42
index fields.SiteTimeserials = 43
index fields.State = 44
index fields.StatusCode = 45
index fields.String = 46
index fields.Timeserial = 47
index fields.Timestamp = 48
index fields.Tombstone = 49

number_of_name : List ℕ → ℕ
number_of_name s = cond (bytes_eq s (codes "ack")) 0 (cond (bytes_eq s (codes "action")) 1 (cond (bytes_eq s (codes "amount")) 2 (cond (bytes_eq s (codes "boolean")) 3 (cond (bytes_eq s (codes "bytes")) 4 (cond (bytes_eq s (codes "channel")) 5 (cond (bytes_eq s (codes "channelSerial")) 6 (cond (bytes_eq s (codes "channelSerials")) 7 (cond (bytes_eq s (codes "clientId")) 8 (cond (bytes_eq s (codes "code")) 9 (cond (bytes_eq s (codes "connectionDetails")) 10 (cond (bytes_eq s (codes "connectionId")) 11 (cond (bytes_eq s (codes "connectionKey")) 12 (cond (bytes_eq s (codes "connectionStateTtl")) 13 (cond (bytes_eq s (codes "count")) 14 (cond (bytes_eq s (codes "counter")) 15 (cond (bytes_eq s (codes "counterOp")) 16 (cond (bytes_eq s (codes "created")) 17 (cond (bytes_eq s (codes "data")) 18 (cond (bytes_eq s (codes "encoding")) 19 (cond (bytes_eq s (codes "entries")) 20 (cond (bytes_eq s (codes "error")) 21 (cond (bytes_eq s (codes "flags")) 22 (cond (bytes_eq s (codes "from")) 23 (cond (bytes_eq s (codes "id")) 24 (cond (bytes_eq s (codes "key")) 25 (cond (bytes_eq s (codes "map")) 26 (cond (bytes_eq s (codes "mapOp")) 27 (cond (bytes_eq s (codes "maxIdleInterval")) 28 (cond (bytes_eq s (codes "maxMessageSize")) 29 (cond (bytes_eq s (codes "message")) 30 (cond (bytes_eq s (codes "messages")) 31 (cond (bytes_eq s (codes "msgSerial")) 32 (cond (bytes_eq s (codes "name")) 33 (cond (bytes_eq s (codes "number")) 34 (cond (bytes_eq s (codes "object")) 35 (cond (bytes_eq s (codes "objectId")) 36 (cond (bytes_eq s (codes "operation")) 37 (cond (bytes_eq s (codes "params")) 38 (cond (bytes_eq s (codes "presence")) 39 (cond (bytes_eq s (codes "semantics")) 40 (cond (bytes_eq s (codes "serial")) 41 (cond (bytes_eq s (codes "siteCode")) 42 (cond (bytes_eq s (codes "siteTimeserials")) 43 (cond (bytes_eq s (codes "state")) 44 (cond (bytes_eq s (codes "statusCode")) 45 (cond (bytes_eq s (codes "string")) 46 (cond (bytes_eq s (codes "timeserial")) 47 (cond (bytes_eq s (codes "timestamp")) 48 (cond (bytes_eq s (codes "tombstone")) 49 (50))))))))))))))))))))))))))))))))))))))))))))))))))

name_of_number : ℕ → List ℕ
name_of_number n = cond (n == 0) (codes "ack") (cond (n == 1) (codes "action") (cond (n == 2) (codes "amount") (cond (n == 3) (codes "boolean") (cond (n == 4) (codes "bytes") (cond (n == 5) (codes "channel") (cond (n == 6) (codes "channelSerial") (cond (n == 7) (codes "channelSerials") (cond (n == 8) (codes "clientId") (cond (n == 9) (codes "code") (cond (n == 10) (codes "connectionDetails") (cond (n == 11) (codes "connectionId") (cond (n == 12) (codes "connectionKey") (cond (n == 13) (codes "connectionStateTtl") (cond (n == 14) (codes "count") (cond (n == 15) (codes "counter") (cond (n == 16) (codes "counterOp") (cond (n == 17) (codes "created") (cond (n == 18) (codes "data") (cond (n == 19) (codes "encoding") (cond (n == 20) (codes "entries") (cond (n == 21) (codes "error") (cond (n == 22) (codes "flags") (cond (n == 23) (codes "from") (cond (n == 24) (codes "id") (cond (n == 25) (codes "key") (cond (n == 26) (codes "map") (cond (n == 27) (codes "mapOp") (cond (n == 28) (codes "maxIdleInterval") (cond (n == 29) (codes "maxMessageSize") (cond (n == 30) (codes "message") (cond (n == 31) (codes "messages") (cond (n == 32) (codes "msgSerial") (cond (n == 33) (codes "name") (cond (n == 34) (codes "number") (cond (n == 35) (codes "object") (cond (n == 36) (codes "objectId") (cond (n == 37) (codes "operation") (cond (n == 38) (codes "params") (cond (n == 39) (codes "presence") (cond (n == 40) (codes "semantics") (cond (n == 41) (codes "serial") (cond (n == 42) (codes "siteCode") (cond (n == 43) (codes "siteTimeserials") (cond (n == 44) (codes "state") (cond (n == 45) (codes "statusCode") (cond (n == 46) (codes "string") (cond (n == 47) (codes "timeserial") (cond (n == 48) (codes "timestamp") (cond (n == 49) (codes "tombstone") ([]))))))))))))))))))))))))))))))))))))))))))))))))))

numbered : (f : Field) → number_of_name (spelled f) ≡ index f
unfolding spelled number_of_name
numbered fields.Ack = refl
numbered fields.Action = refl
numbered fields.Amount = refl
numbered fields.Boolean = refl
numbered fields.Bytes = refl
numbered fields.Channel = refl
numbered fields.ChannelSerial = refl
numbered fields.ChannelSerials = refl
numbered fields.ClientId = refl
numbered fields.Code = refl
numbered fields.ConnectionDetails = refl
numbered fields.ConnectionId = refl
numbered fields.ConnectionKey = refl
numbered fields.ConnectionStateTtl = refl
numbered fields.Count = refl
numbered fields.Counter = refl
numbered fields.CounterOp = refl
numbered fields.Created = refl
numbered fields.Data = refl
numbered fields.Encoding = refl
numbered fields.Entries = refl
numbered fields.Error = refl
numbered fields.Flags = refl
numbered fields.From = refl
numbered fields.Id = refl
numbered fields.Key = refl
numbered fields.Map = refl
numbered fields.MapOp = refl
numbered fields.MaxIdleInterval = refl
numbered fields.MaxMessageSize = refl
numbered fields.Message = refl
numbered fields.Messages = refl
numbered fields.MsgSerial = refl
numbered fields.Name = refl
numbered fields.Number = refl
numbered fields.Object = refl
numbered fields.ObjectId = refl
numbered fields.Operation = refl
numbered fields.Params = refl
numbered fields.Presence = refl
numbered fields.Semantics = refl
numbered fields.Serial = refl
numbered fields.SiteCode = refl
numbered fields.SiteTimeserials = refl
numbered fields.State = refl
numbered fields.StatusCode = refl
numbered fields.String = refl
numbered fields.Timeserial = refl
numbered fields.Timestamp = refl
numbered fields.Tombstone = refl

named : (f : Field) → name_of_number (index f) ≡ spelled f
unfolding spelled name_of_number
named fields.Ack = refl
named fields.Action = refl
named fields.Amount = refl
named fields.Boolean = refl
named fields.Bytes = refl
named fields.Channel = refl
named fields.ChannelSerial = refl
named fields.ChannelSerials = refl
named fields.ClientId = refl
named fields.Code = refl
named fields.ConnectionDetails = refl
named fields.ConnectionId = refl
named fields.ConnectionKey = refl
named fields.ConnectionStateTtl = refl
named fields.Count = refl
named fields.Counter = refl
named fields.CounterOp = refl
named fields.Created = refl
named fields.Data = refl
named fields.Encoding = refl
named fields.Entries = refl
named fields.Error = refl
named fields.Flags = refl
named fields.From = refl
named fields.Id = refl
named fields.Key = refl
named fields.Map = refl
named fields.MapOp = refl
named fields.MaxIdleInterval = refl
named fields.MaxMessageSize = refl
named fields.Message = refl
named fields.Messages = refl
named fields.MsgSerial = refl
named fields.Name = refl
named fields.Number = refl
named fields.Object = refl
named fields.ObjectId = refl
named fields.Operation = refl
named fields.Params = refl
named fields.Presence = refl
named fields.Semantics = refl
named fields.Serial = refl
named fields.SiteCode = refl
named fields.SiteTimeserials = refl
named fields.State = refl
named fields.StatusCode = refl
named fields.String = refl
named fields.Timeserial = refl
named fields.Timestamp = refl
named fields.Tombstone = refl

-- fields with one number are one, and fields with one name too
pub same_name : (f g : Field) → (index f == index g) ≡ true → spelled f ≡ spelled g
same_name f g h = sym (named f) ∙ ap name_of_number (eqb-true (index f) (index g) h) ∙ named g

pub other_name : (f g : Field) → (index f == index g) ≡ false → spelled f ≡ spelled g → ⊥
other_name f g h e =
    let k : index f ≡ index g = sym (numbered f) ∙ ap number_of_name e ∙ numbered g in
    absurd (cc (h, eq-eqb (index f) (index g) k))
