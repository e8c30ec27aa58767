-- What a thread takes along may cross to it: the type of a closure may, where the type of each capture may.
use Rattle.std.proofs.Common.{List, [], ◌∷◌, ℕ}
use denote.RattleType.{RattleType}
use denote.Exit.{Kept}
use denote.Param.{param, arg}
use denote.Param.Send.{IsSend, AllSend, param_send, arg_send, struct_send, recorded_send}
use denote.Struct.Declared.{shape}
use denote.Struct.Tuple.{TupleAt, type_at}
use mir.Syntax.{Ty}

fields-send : (name : List ℕ) (captures : List RattleType) → AllSend captures → AllSend (shape (type_at name captures)).fields
fields-send name [] all = tt
fields-send name (one ∷ captures) all = (all.0, fields-send name captures all.1)

pub closure-send : (i : ℕ) (layout : Ty) (kept : Kept) (name : List ℕ) (captures : List RattleType) → AllSend captures → IsSend (param i (arg layout kept (TupleAt name captures)))
closure-send i layout kept name captures all =
    param_send i (arg layout kept (TupleAt name captures))
    (arg_send layout kept (TupleAt name captures)
    (recorded_send _ _ _ ((type_at name captures).to_one) (struct_send (shape (type_at name captures)) (fields-send name captures all))))
