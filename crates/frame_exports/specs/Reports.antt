-- What each exported reader hands back of the one reader's report: the fields of its own kind.
use Rattle.frames.specs.Reader.{Read}
use Rattle.frame_exports.specs.declared.init.ReadInit.{ReadInit}
use Rattle.frame_exports.specs.declared.update.ReadUpdate.{ReadUpdate}
use Rattle.frame_exports.specs.declared.stop.ReadStop.{ReadStop}
use Rattle.frame_exports.specs.declared.single.ReadSingle.{ReadSingle}

abbrev pub as_init : Read → ReadInit
as_init r = record { answer = r.answer; ident = r.fields.ident; used = r.used; init = r.fields.init }

abbrev pub as_update : Read → ReadUpdate
as_update r = record { answer = r.answer; ident = r.fields.ident; used = r.used; settings = r.fields.entries }

abbrev pub as_stop : Read → ReadStop
as_stop r = record { answer = r.answer; ident = r.fields.ident; used = r.used }

abbrev pub as_single : Read → ReadSingle
as_single r = record { answer = r.answer; ident = r.fields.ident; used = r.used; single = r.fields.single }
