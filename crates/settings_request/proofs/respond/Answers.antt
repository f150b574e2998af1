-- Each request by its own function.
use Rattle.settings_request.proofs.respond.Goals as goal

pub returns-in-Save : goal.returns-in-Save
returns-in-Save c = simp c.in-Save.is c.respond_save.ensures

pub returns-in-Find : goal.returns-in-Find
returns-in-Find c = simp c.in-Find.is c.respond_find.ensures

pub returns-in-Back : goal.returns-in-Back
returns-in-Back c = simp c.in-Back.is c.respond_back.ensures

pub returns-in-ListAll : goal.returns-in-ListAll
returns-in-ListAll c = simp c.in-ListAll.is c.respond_list.ensures

pub returns-in-Messages : goal.returns-in-Messages
returns-in-Messages c = simp c.in-Messages.is c.respond_messages.ensures
