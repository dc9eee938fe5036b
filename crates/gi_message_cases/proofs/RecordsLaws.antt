-- The nominations of a side stay sound, whether a contract, a notice or a nomination is recorded or refused.
use Rattle.std.proofs.Common.{◌≡◌, List, [], ◌∷◌, ◌++◌, Result, Ok, Err, OnOk, OnErr, refl, sym, subst, ◌∙◌}
use Rattle.std.proofs.lemmas.List.{append-nil}
use Rattle.jiff_core.specs.declared.civil.date.Date.{Date}
use Rattle.gi_messages.specs.declared.message.Nomint.{Nomint}
use Rattle.gi_nominations.specs.Book.{Documents, DocumentStands}
use Rattle.gi_nominations.proofs.BookLaws.{in_force-appended}
use Rattle.gi_processing.specs.Capacity.{Capacity}
use Rattle.gi_processing.specs.Processing.{AreSound, IsSound}
use Rattle.gi_processing.specs.Readings.{RecordsContract}
use Rattle.gi_processing.specs.Recording.{with_contract}
use Rattle.gi_processing.specs.declared.contract.Contract.{Contract}
use Rattle.gi_processing.proofs.ProcessingReadings.{reads-sound}
use Rattle.gi_processing.proofs.ReadingLaws.{reads-self}
use Rattle.gi_processing.proofs.SoundLaws.{sound-contract, sound-taken}

-- on each gas day they are
abbrev pub AreAllSound : Capacity → List Nomint → Type 0
AreAllSound capacity documents = (day : Date) → AreSound capacity documents day

pub sound_set : {T E : Type 0} (r : Result T E) (old new : Capacity) (contract : Contract) (documents : List Nomint)
    → OnOk r (RecordsContract old new contract) → OnErr r (new ≡ old) → AreAllSound old documents → AreAllSound new documents
sound_set (Ok x) old new contract documents reads kept sound day =
    let more = with_contract old contract in
    reads-sound new more documents documents day (reads old (reads-self old)) (λ portfolio. refl)
    (sound-contract old more (contract ∷ []) documents day refl (sound day))
sound_set (Err e) old new contract documents reads kept sound day = subst (λ (capacity : Capacity). AreSound capacity documents day) (sym kept) (sound day)

pub sound_noticed : (old new : Capacity) (documents : List Nomint) → new.contracts ≡ old.contracts → AreAllSound old documents → AreAllSound new documents
sound_noticed old new documents contracts sound day = sound-contract old new [] documents day (contracts ∙ sym (append-nil old.contracts)) (sound day)

pub sound_taken : {T E : Type 0} (r : Result T E) (capacity : Capacity) (old new : Documents) (document : Nomint)
    → OnOk r (DocumentStands old.documents new.documents document) → OnErr r (new ≡ old) → AreAllSound capacity old.documents
    → IsSound capacity document.day document.portfolio document → AreAllSound capacity new.documents
sound_taken (Ok x) capacity old new document stands kept sound own day =
    reads-sound capacity capacity new.documents (old.documents ++ document ∷ []) day (reads-self capacity)
    (λ portfolio. stands portfolio day ∙ sym (in_force-appended old.documents document portfolio day))
    (sound-taken capacity old.documents day document (sound day) (λ same. subst (λ (d : Date). IsSound capacity d document.portfolio document) same own))
sound_taken (Err e) capacity old new document stands kept sound own day = subst (λ (book : Documents). AreSound capacity book.documents day) (sym kept) (sound day)
